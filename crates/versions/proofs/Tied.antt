-- Tuples that tie in the order of tuples are one.
use Rattle.std.proofs.Common.{◌≡◌, refl}
use Rattle.std.specs.Ordering.{is_eq}
use Rattle.tuples.specs.declared.tuple.Tuple.{Tuple}
use Rattle.tuples.specs.Order.{tuple_cmp, tuple_eq}

pub same_tie : (a b : Tuple) → is_eq (tuple_cmp a b) ≡ tuple_eq a b
unfolding tuple_eq
same_tie a b = refl
