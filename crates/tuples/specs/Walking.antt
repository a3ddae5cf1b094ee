-- What a check asks of one userset: whether it holds the user, and which usersets it holds.
use Rattle.std.specs.Prelude.{◌≡◌, ◌↔◌, Bool, true, false, ◌&&◌, ◌||◌, List, Contains}
use Rattle.std.specs.Ordering.{is_eq}
use Rattle.tuples.specs.declared.object.Userset.{Userset}
use Rattle.tuples.specs.declared.tuple.Tuple.{Tuple}
use Rattle.tuples.specs.declared.user.User.{User}
use Rattle.tuples.specs.declared.user.User.TheVariants.{Id, Set}
use Rattle.tuples.specs.Order.{object_cmp, user_cmp}
use Rattle.tuples.specs.Reads.{AreAscending, same_name}

-- the user is a userset
abbrev pub is_set : User → Bool
is_set (Id name) = false
is_set (Set y) = true

-- the tuple is one of the userset, and its user is this one or a userset
abbrev pub meets_check : Userset → User → Tuple → Bool
meets_check x u t = is_eq (object_cmp t.object x.object) && (same_name t.relation x.relation && (is_eq (user_cmp t.user u) || is_set t.user))

-- the tuples of the set that a check asks of a userset, ascending
pub record IsCheckSelection (there : Tuple → Bool) (x : Userset) (u : User) (rows : List Tuple) : Type 0 where
  pub ascending : AreAscending rows
  pub exact : (t : Tuple) → Contains rows t ↔ ((there t ≡ true) × (meets_check x u t ≡ true))
