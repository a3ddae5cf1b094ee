-- Small contents with more after them, and devices that are found of others, or are not.
use Rattle.std.proofs.Common.{◌≡◌, ⊎_elim, inr, ℕ, false, List, [], ◌∷◌, ◌++◌, Some, None, refl, sym, subst, arith}
use Rattle.gated.specs.Gated.{IsSpelled, gated}
use Rattle.device.specs.Device.{State}
use Rattle.device.proofs.Moments.{leaves_itself, leaves_nothing_else}
use Rattle.headline.specs.Found.{IsFoundIn, IsFoundOf}

-- a record of one byte before a closed gate
abbrev one : List ℕ
one = 165 ∷ 0 ∷ 0 ∷ 0 ∷ 1 ∷ 7 ∷ 0 ∷ []

one_is_spelled : IsSpelled one ((7 ∷ []) ∷ []) 6
one_is_spelled = record { gate = 0; rest = []; fit = ((omega arith, omega arith), tt); closed = λ is. absurd cc; content_is = refl; end_is = refl }

-- it is found with zeros after it, and with any other bytes
one_with_more : (more : List ℕ) → IsFoundIn one (one ++ more)
one_with_more more = inr ((7 ∷ []) ∷ [], 6, more, one_is_spelled, refl)

-- An open gate that ends a content is no gate, and with zeros after it is damage: so a content that no closed gate ends is found as it is.
open_alone : gated (165 ∷ []) ≡ Some []
unfolding gated
open_alone = refl

open_before_zeros : gated (165 ∷ 0 ∷ 0 ∷ 0 ∷ 0 ∷ 0 ∷ []) ≡ None
unfolding gated
open_before_zeros = refl

-- a device that has settled on this content
abbrev settled : List ℕ → State
settled content = record { seen = content; durable = content; written = []; stopped = false; failures = 0 }

abbrev IsFoundThere : List ℕ → List ℕ → Type 0
IsFoundThere old new = IsFoundOf (λ (s : State). s) (λ (s : State). Unit {0}) (settled old) (settled new)

-- A longer file is found of one record with a closed gate, whatever follows; and no file that lacks it.
longer_is_found : (more : List ℕ) → IsFoundThere one (one ++ more)
longer_is_found more = record {
  is_honest = tt;
  each = λ seen is. (one, leaves_itself one, subst (IsFoundIn one) (sym (leaves_nothing_else (one ++ more) seen is)) (one_with_more more));
}

lost_is_not_in : IsFoundIn one [] → ⊥
lost_is_not_in is = ⊎_elim (λ (same : [] ≡ one). absurd cc) (λ longer. let same : [] ≡ one ++ longer.2 = longer.4 in absurd cc) is

lost_is_not_found : IsFoundThere one [] → ⊥
lost_is_not_found is =
    let was = is.each [] (leaves_itself []) in
    lost_is_not_in (subst (λ (content : List ℕ). IsFoundIn content []) (leaves_nothing_else one was.0 was.1) was.2)
