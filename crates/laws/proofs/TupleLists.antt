-- Whether a list has a tuple.
use Rattle.std.proofs.Common.{◌⊎◌, ⊎_elim, inl, inr, zero, true≢false, List, [], ◌∷◌, Contains, refl, sym, ◌∙◌, subst, arith}
use Rattle.std.proofs.lemmas.Bool.{cases_Bool}
use Rattle.std.proofs.lemmas.List.Elements.{Contains-append_cases, Contains-append_right, Contains-push_cases}
use Rattle.tuples.specs.declared.tuple.Tuple.{Tuple}
use Rattle.tuples.specs.Order.{tuple_eq}
use Rattle.tuples.proofs.Ordered.{tuple_eq_from_same}
use Rattle.tuples.proofs.Same.{tuple_same}
use Rattle.tuples.proofs.Lists.{contained_from}

pub has_or_not : (rows : List Tuple) (t : Tuple) → Contains rows t ⊎ (Contains rows t → ⊥)
has_or_not [] t = inr (λ has. omega (arith, has.1))
has_or_not (y ∷ rows) t = ⊎_elim
    (λ same. inl (subst (Contains (y ∷ rows)) (tuple_same y t same) (contained_from (y ∷ rows) zero y refl)))
    (λ other. ⊎_elim
    (λ further. inl (Contains-append_right (y ∷ []) rows t further))
    (λ lacks. inr (λ has. ⊎_elim
    (λ first. ⊎_elim (λ never. omega (arith, never.1)) (λ is. true≢false (sym (tuple_eq_from_same y t is) ∙ other)) (Contains-push_cases [] y t first))
    lacks
    (Contains-append_cases (y ∷ []) rows t has)))
    (has_or_not rows t))
    (cases_Bool (tuple_eq y t))
