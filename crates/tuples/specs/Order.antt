-- The order of tuples: by namespace, object id, relation and user, each byte by byte.
use Rattle.std.specs.Prelude.{ℕ, Bool, List}
use Rattle.std.specs.Ordering.{nat_cmp, ordering_then, is_eq, is_lt}
use Rattle.std.specs.Cmp.Lexicographic.{slice_cmp}
use Rattle.std.specs.declared.cmp.Ordering.{Ordering}
use Rattle.std.specs.declared.cmp.Ordering.TheVariants.{Less, Greater}
use Rattle.tuples.specs.declared.object.Object.{Object}
use Rattle.tuples.specs.declared.object.Userset.{Userset}
use Rattle.tuples.specs.declared.user.User.{User}
use Rattle.tuples.specs.declared.user.User.TheVariants.{Id, Set}
use Rattle.tuples.specs.declared.tuple.Tuple.{Tuple}

-- byte by byte, a beginning before the longer one
abbrev pub name_cmp : List ℕ → List ℕ → Ordering
name_cmp = slice_cmp nat_cmp

abbrev pub object_cmp : Object → Object → Ordering
object_cmp a b = ordering_then (name_cmp a.namespace b.namespace) (name_cmp a.id b.id)

abbrev pub userset_cmp : Userset → Userset → Ordering
userset_cmp a b = ordering_then (object_cmp a.object b.object) (name_cmp a.relation b.relation)

-- a plain user stands before a userset
abbrev pub user_cmp : User → User → Ordering
user_cmp (Id a) (Id b) = name_cmp a b
user_cmp (Id a) (Set b) = Less
user_cmp (Set a) (Id b) = Greater
user_cmp (Set a) (Set b) = userset_cmp a b

abbrev pub tuple_cmp : Tuple → Tuple → Ordering
tuple_cmp a b = ordering_then (object_cmp a.object b.object) (ordering_then (name_cmp a.relation b.relation) (user_cmp a.user b.user))

-- whether they are one tuple
unfoldable pub tuple_eq : Tuple → Tuple → Bool
tuple_eq a b = is_eq (tuple_cmp a b)

-- whether the first stands before the second
unfoldable pub tuple_lt : Tuple → Tuple → Bool
tuple_lt a b = is_lt (tuple_cmp a b)
