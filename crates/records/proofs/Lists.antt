-- Lists after their number.
use Rattle.std.proofs.Common.{◌≡◌, ℕ, zero, suc, ◌≤◌, Bool, true, false, cond, leb, List, [], ◌∷◌, ◌++◌, length, Option, Some, None, refl, ap, subst, ◌∙◌, append_assoc}
use Rattle.std.specs.List.{flat_map, AllByRecursion}
use Rattle.std.proofs.lemmas.Bool.{leb-true, le-leb}
use Rattle.std.proofs.lemmas.List.Concat.{flat_map-cons}
use Rattle.records.specs.Reading.{◌>>=◌, few_at, list_at}
use Rattle.records.proofs.Fields.{IsBytes, Takes, Takes-then, IsField, bind_some, some_is}

pub list_takes : {A : Type 0} (item : List ℕ → Option (A × List ℕ)) (s : A → List ℕ) (F : A → Type 0) → IsField item s F
    → (n : ℕ) (bytes : List ℕ) (x : List A × List ℕ) → IsBytes bytes → list_at item n bytes ≡ Some x → Takes bytes (flat_map s x.0) x.1 × (length x.0 ≡ n) × AllByRecursion F x.0
unfolding list_at
list_takes item s F field zero bytes x fits e =
    subst (λ (y : List _ × List ℕ). Takes bytes (flat_map s y.0) y.1 × (length y.0 ≡ 0) × AllByRecursion F y.0) (some_is ([], bytes) x e) (record { parts = refl; rest_fits = fits }, refl, tt)
list_takes item s F field (suc n) bytes x fits e =
    let a = bind_some (item bytes) (λ first. list_at item n first.1 >>= λ others. Some (first.0 ∷ others.0, others.1)) x e in
    let b = bind_some (list_at item n a.0.1) (λ others. Some (a.0.0 ∷ others.0, others.1)) x a.2 in
    let first = field.takes bytes a.0 fits a.1 in
    let second = list_takes item s F field n a.0.1 b.0 first.0.rest_fits b.1 in
    let both = Takes-then bytes (s a.0.0) a.0.1 (flat_map s b.0.0) b.0.1 first.0 second.0 in
    subst (λ (y : List _ × List ℕ). Takes bytes (flat_map s y.0) y.1 × (length y.0 ≡ suc n) × AllByRecursion F y.0) (some_is (a.0.0 ∷ b.0.0, b.0.1) x b.2) (rw flat_map-cons both, ap suc second.1, (first.1, second.2))

pub list_again : {A : Type 0} (item : List ℕ → Option (A × List ℕ)) (s : A → List ℕ) (F : A → Type 0) → IsField item s F
    → (xs : List A) (rest : List ℕ) → AllByRecursion F xs → list_at item (length xs) (flat_map s xs ++ rest) ≡ Some (xs, rest)
unfolding list_at
list_again item s F field [] rest fits = refl
list_again item s F field (x ∷ xs) rest fits =
    let regrouped : flat_map s (x ∷ xs) ++ rest ≡ s x ++ (flat_map s xs ++ rest) = ap (λ (t : List ℕ). t ++ rest) (flat_map-cons s x xs) ∙ append_assoc (s x) (flat_map s xs) rest in
    ap (list_at item (suc (length xs))) regrouped ∙ rw (field.again x (flat_map s xs ++ rest) fits.0, list_again item s F field xs rest fits.1) refl

-- a test that lets a result pass
pub allowed : {A : Type 0} (b : Bool) (r : Option A) (y : A) → cond b r None ≡ Some y → (b ≡ true) × (r ≡ Some y)
allowed true r y e = (refl, e)
allowed false r y e = absurd cc

pub few_field : {A : Type 0} (count : List ℕ → Option (ℕ × List ℕ)) (t : ℕ → List ℕ) (G : ℕ → Type 0) (item : List ℕ → Option (A × List ℕ)) (s : A → List ℕ) (F : A → Type 0) (most : ℕ)
    → IsField count t G → IsField item s F → ((n : ℕ) → n ≤ most → G n) → IsField (few_at count item most) (λ xs. t (length xs) ++ flat_map s xs) (λ xs. (length xs ≤ most) × AllByRecursion F xs)
few_field count t G item s F most numbers items fits = record {
  takes = λ bytes x are_bytes e.
      let p = bind_some (count bytes) (λ n. cond (leb n.0 most) (list_at item n.0 n.1) None) x e in
      let q = allowed (leb p.0.0 most) (list_at item p.0.0 p.0.1) x p.2 in
      let u = numbers.takes bytes p.0 are_bytes p.1 in
      let v = list_takes item s F items p.0.0 p.0.1 x u.0.rest_fits q.1 in
      let both = Takes-then bytes (t p.0.0) p.0.1 (flat_map s x.0) x.1 u.0 v.0 in
      (rw v.1 both, (rw v.1 (leb-true _ _ q.0), v.2));
  again = λ xs rest fit.
      let few : leb (length xs) most ≡ true = le-leb _ _ fit.0 in
      ap (few_at count item most) (append_assoc (t (length xs)) (flat_map s xs) rest)
      ∙ rw (numbers.again (length xs) (flat_map s xs ++ rest) (fits (length xs) fit.0), few) (list_again item s F items xs rest fit.1);
}
