-- Tuples of which each stands before the next one are distinct.
use Rattle.std.proofs.Common.{◌≡◌, true, false, List, [], ◌∷◌, refl}
use Rattle.std.proofs.lemmas.Bool.{and_parts, or_from}
use Rattle.tuples.specs.declared.tuple.Tuple.{Tuple}
use Rattle.tuples.specs.Changes.{AreDistinct, are_ascending, has_tuple}
use Rattle.tuples.specs.Order.{tuple_eq, tuple_lt}
use Rattle.tuples.proofs.Ordered.{tuple_lt_apart, tuple_lt_trans}

-- what stands before the first stands before all
lacks_lower : (t u : Tuple) (ts : List Tuple) → tuple_lt t u ≡ true → are_ascending (u ∷ ts) ≡ true → has_tuple t (u ∷ ts) ≡ false
lacks_lower t u [] h a = or_from (tuple_eq t u) false (tuple_lt_apart t u h) refl
lacks_lower t u (v ∷ ts) h a =
    let p = and_parts (tuple_lt u v) (are_ascending (v ∷ ts)) a in
    or_from (tuple_eq t u) (has_tuple t (v ∷ ts)) (tuple_lt_apart t u h) (lacks_lower t v ts (tuple_lt_trans t u v h p.0) p.1)

pub ascending_distinct : (ts : List Tuple) → are_ascending ts ≡ true → AreDistinct ts
ascending_distinct [] h = tt
ascending_distinct (t ∷ []) h = (refl, tt)
ascending_distinct (t ∷ u ∷ ts) h =
    let p = and_parts (tuple_lt t u) (are_ascending (u ∷ ts)) h in
    (lacks_lower t u ts p.0 p.1, ascending_distinct (u ∷ ts) p.1)
