-- What a check that walks from userset to userset has met, over a set of tuples.
use Rattle.std.specs.Prelude.{◌≡◌, ◌++◌, Bool, true, false, List, Contains}
use Rattle.tuples.specs.declared.object.Userset.{Userset}
use Rattle.tuples.specs.declared.tuple.Tuple.{Tuple}
use Rattle.tuples.specs.declared.user.User.{User}
use Rattle.tuples.specs.declared.user.User.TheVariants.{Set}
use Rattle.tuples.specs.Checking.{AreOnce, IsReached, holding}

-- Usersets that can be reached, each once, the asked one among them. None that was walked holds the user, and what it holds was walked or waits.
pub record IsWalk (there : Tuple → Bool) (x : Userset) (u : User) (walked waiting : List Userset) : Type 0 where
  pub asked : Contains (walked ++ waiting) x
  pub once : AreOnce (walked ++ waiting)
  pub reached : (y : Userset) → Contains (walked ++ waiting) y → IsReached there x y
  pub none : (y : Userset) → Contains walked y → there (holding y u) ≡ false
  pub further : (y z : Userset) → Contains walked y → there (holding y (Set z)) ≡ true → Contains (walked ++ waiting) z
