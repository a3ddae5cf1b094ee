-- The versions of one shard more.
use Rattle.std.proofs.Common.{◌≡◌, ◌++◌, ◌+◌, ◌∷◌, [], ℕ, suc, List, append-nil, refl, ◌∙◌, ap, arith, subst}
use Rattle.calls.specs.Views.{NodeView}
use Rattle.device.specs.Device.{State}
use Rattle.tuples.specs.declared.version.Version.{Version}
use Rattle.reshard.specs.Merging.{all_of}
use Rattle.reshard.specs.Gathering.{TellAll, TellsShard}

all_then : (lists : List (List Version)) (more : List Version) → all_of (lists ++ more ∷ []) ≡ all_of lists ++ more
all_then [] more = append-nil more
all_then (l ∷ lists) more = ap (λ (vs : List Version). l ++ vs) (all_then lists more) ∙ sym_assoc l (all_of lists) more
  where
    sym_assoc : (a b c : List Version) → a ++ (b ++ c) ≡ (a ++ b) ++ c
    sym_assoc [] b c = refl
    sym_assoc (v ∷ a) b c = ap (λ (vs : List Version). v ∷ vs) (sym_assoc a b c)

module _ {D : Type 0} (state : D → State) (honest : D → Type 0) (nodes : List (NodeView D)) where
  pub one_shard : (s : ℕ) (mid new : List (List Version)) → TellAll state honest nodes s (all_of mid) → ((more : List Version) × TellsShard state honest nodes s more × (new ≡ mid ++ more ∷ [])) → TellAll state honest nodes (s + 1) (all_of new)
  one_shard s mid new before (more, one, is) =
      let next : suc s ≡ s + 1 = omega arith in
      let all : TellAll state honest nodes (suc s) (all_of new) = (all_of mid, more, before, one, ap all_of is ∙ all_then mid more) in
      subst (λ (n : ℕ). TellAll state honest nodes n (all_of new)) next all
