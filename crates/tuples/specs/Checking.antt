-- Who is a member of a userset, over a set of tuples.
use Rattle.std.specs.Prelude.{◌≡◌, ◌<◌, ℕ, Bool, true, List, [], ◌∷◌, length, Some, All, slice_get}
use Rattle.tuples.specs.declared.object.Userset.{Userset}
use Rattle.tuples.specs.declared.tuple.Tuple.{Tuple}
use Rattle.tuples.specs.declared.user.User.{User}
use Rattle.tuples.specs.declared.user.User.TheVariants.{Set}

-- the userset of a tuple's object and relation
abbrev pub userset_of : Tuple → Userset
userset_of t = record { object = t.object; relation = t.relation }

-- the tuple by which a userset holds a user
abbrev pub holding : Userset → User → Tuple
holding x u = record { object = x.object; relation = x.relation; user = u }

-- each userset of x and these holds the next one
abbrev pub IsChain : (Tuple → Bool) → Userset → List Userset → Type 0
IsChain there x [] = Unit {0}
IsChain there x (y ∷ ys) = (there (holding x (Set y)) ≡ true) × IsChain there y ys

-- the last of x and these
abbrev pub end_of_chain : Userset → List Userset → Userset
end_of_chain x [] = x
end_of_chain x (y ∷ ys) = end_of_chain y ys

-- there is a list of usersets from x on, each of which holds the next, and the last holds the user
pub record IsMember (there : Tuple → Bool) (u : User) (x : Userset) : Type 0 where
  pub through : List Userset
  pub chain : IsChain there x through
  pub last : there (holding (end_of_chain x through) u) ≡ true

-- there is a list of usersets from x to y, each of which holds the next
pub record IsReached (there : Tuple → Bool) (x y : Userset) : Type 0 where
  pub through : List Userset
  pub chain : IsChain there x through
  pub last : end_of_chain x through ≡ y

-- no userset stands twice
abbrev pub AreOnce : List Userset → Type 0
AreOnce xs = (i j : ℕ) (x : Userset) → slice_get xs i ≡ Some x → slice_get xs j ≡ Some x → i ≡ j

-- more than so many usersets can be reached from x
pub record ReachesMoreThan (most : ℕ) (there : Tuple → Bool) (x : Userset) : Type 0 where
  pub reached : List Userset
  pub once : AreOnce reached
  pub each : All (IsReached there x) reached
  pub many : most < length reached
