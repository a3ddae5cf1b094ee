-- The first userset that waits, and what walking it makes of a check.
use Rattle.std.proofs.Common.{◌≡◌, ◌≢◌, ◌⊎◌, ◌↔◌, inl, inr, ⊎_elim, ℕ, zero, suc, List, [], ◌∷◌, ◌++◌, Option, Some, None, slice_get, Contains, refl, sym, ap, subst, arith, append_assoc}
use Rattle.std.proofs.lemmas.List.Elements.{Contains-append_left, Contains-append_right, Contains-append_cases}
use Rattle.tuples.specs.declared.object.Userset.{Userset}
use Rattle.tuples.specs.declared.tuple.Tuple.{Tuple}
use Rattle.tuples.specs.Checking.{AreOnce}
use Rattle.tuples.proofs.OnceEach.{once_left, once_right, once_apart}
use Rattle.decisions.specs.Values.{BatchValue}
use Rattle.decisions.specs.Walks.{Walks}
use Rattle.answer_flow.specs.CheckViews.{holding_walk}
use Rattle.answer_flow.specs.Walking.{IsWalked, WalkValue}

pub none_first : (xs : List Userset) → slice_get xs 0 ≡ None → xs ≡ []
none_first [] is = refl
none_first (x ∷ xs) is = absurd cc

pub some_first : (xs : List Userset) (y : Userset) → slice_get xs 0 ≡ Some y → (rest : List Userset) × (xs ≡ y ∷ rest)
some_first [] y is = absurd cc
some_first (x ∷ xs) y is = let same : x ≡ y = cc in (xs, ap (λ (z : Userset). z ∷ xs) same)

pub first_waits : (xs : List Userset) (y : Userset) → slice_get xs 0 ≡ Some y → xs ≢ []
first_waits [] y is none = absurd cc
first_waits (x ∷ xs) y is none = absurd cc

only : (x y : Userset) → Contains (x ∷ []) y → y ≡ x
only x y (zero, lt, is) = sym is
only x y (suc k, lt, is) = absurd (omega (arith, lt))

pub walks : (y : Userset) (rest : List Userset) (rows : List Tuple) (old new : WalkValue) (place : Option ℕ) (b : Option BatchValue) → old.waiting ≡ y ∷ rest → IsWalked y rest rows old new
    → Walks y rows (holding_walk old place b) (holding_walk new place b)
walks y rest rows old new place b is w =
    let whole : AreOnce ((old.walked ++ y ∷ rest) ++ w.more) = subst AreOnce (sym (append_assoc old.walked (y ∷ rest) w.more)) w.once in
    let apart : AreOnce ((old.walked ++ old.waiting) ++ w.more) = subst (λ (ws : List Userset). AreOnce ((old.walked ++ ws) ++ w.more)) (sym is) whole in
    let walked : AreOnce ((old.walked ++ y ∷ []) ++ (rest ++ w.more)) = subst AreOnce (sym (append_assoc old.walked (y ∷ []) (rest ++ w.more))) w.once in
    record {
      heads = refl;
      place = refl;
      batch = refl;
      rest = rest;
      first = is;
      walked = record {
        once = subst AreOnce (sym w.walked) (once_left (old.walked ++ y ∷ []) (rest ++ w.more) walked);
        has = λ z. subst (λ (ws : List Userset). Contains ws z ↔ (Contains old.walked z ⊎ (z ≡ y))) (sym w.walked) (
          λ has. ⊎_elim (λ left. inl left) (λ right. inr (only y z right)) (Contains-append_cases old.walked (y ∷ []) z has),
          λ either. ⊎_elim (λ left. Contains-append_left old.walked (y ∷ []) z left) (λ same. Contains-append_right old.walked (y ∷ []) z (0, omega arith, sym same)) either,
        );
      };
      more = w.more;
      waiting = w.waiting;
      once = once_right (old.walked ++ old.waiting) w.more apart;
      held = w.held;
      new = λ z has before. once_apart (old.walked ++ old.waiting) w.more z apart before has;
      all = w.all;
    }
