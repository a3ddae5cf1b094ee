-- How a check walks one userset.
use Rattle.std.specs.Prelude.{◌≡◌, ◌⊎◌, ◌↔◌, List, ◌∷◌, ◌++◌, Contains}
use Rattle.tuples.specs.declared.object.Userset.{Userset}
use Rattle.tuples.specs.declared.tuple.Tuple.{Tuple}
use Rattle.tuples.specs.declared.user.User.TheVariants.{Set}
use Rattle.tuples.specs.Checking.{AreOnce, holding}
use Rattle.decisions.specs.Flows.{CheckHolds}

-- one more userset, each once
pub record IsOneMore (old : List Userset) (y : Userset) (new : List Userset) : Type 0 where
  pub once : AreOnce new
  pub has : (z : Userset) → Contains new z ↔ (Contains old z ⊎ (z ≡ y))

-- A check has walked the first waiting userset; those that it holds and that the check has not met yet wait too.
pub record Walks (y : Userset) (rows : List Tuple) (h next : CheckHolds) : Type 0 where
  pub heads : next.heads ≡ h.heads
  pub place : next.place ≡ h.place
  pub batch : next.batch ≡ h.batch
  pub rest : List Userset
  pub first : h.waiting ≡ y ∷ rest
  pub walked : IsOneMore h.walked y next.walked
  pub more : List Userset
  pub waiting : next.waiting ≡ rest ++ more
  pub once : AreOnce more
  pub held : (z : Userset) → Contains more z → Contains rows (holding y (Set z))
  pub new : (z : Userset) → Contains more z → Contains (h.walked ++ h.waiting) z → ⊥
  pub all : (z : Userset) → Contains rows (holding y (Set z)) → Contains (h.walked ++ h.waiting) z ⊎ Contains more z
