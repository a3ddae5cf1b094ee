-- What a check keeps of the usersets that it has met.
use Rattle.std.specs.Prelude.{◌≡◌, ◌⊎◌, ◌↔◌, Bool, true, false, List, [], ◌∷◌, ◌++◌, cond, Contains}
use Rattle.std.specs.List.{list_any}
use Rattle.std.specs.Ordering.{is_eq}
use Rattle.tuples.specs.declared.object.Userset.{Userset}
use Rattle.tuples.specs.declared.tuple.Tuple.{Tuple}
use Rattle.tuples.specs.declared.user.User.TheVariants.{Set}
use Rattle.tuples.specs.contracts.object.UsersetOrd.TheImpl.{ghosts}
use Rattle.tuples.specs.Checking.{AreOnce, holding}

-- the usersets that were walked, and those that wait
pub record WalkValue : Type 0 where
  pub walked : List Userset
  pub waiting : List Userset

-- the userset is one of those of the set
abbrev pub is_met : List Userset → Userset → Bool
is_met keys z = list_any (λ (y : Userset). is_eq (ghosts.cmp z y)) keys

-- the set has these usersets, and no others
abbrev pub AreMet : List Userset → List Userset → Type 0
AreMet keys met = (z : Userset) → (is_met keys z ≡ true) ↔ Contains met z

-- each was met once, and the set has them all
pub record IsWalk (keys : List Userset) (met : List Userset) : Type 0 where
  pub exact : AreMet keys met
  pub once : AreOnce met

-- a userset is met: it waits, unless it was met before
pub record Meets (keys : List Userset) (waiting : List Userset) (z : Userset) (keys_now : List Userset) (waiting_now : List Userset) : Type 0 where
  pub again : is_met keys z ≡ true → (waiting_now ≡ waiting) × (keys_now ≡ keys)
  pub first : is_met keys z ≡ false → (waiting_now ≡ waiting ++ z ∷ []) × ((q : Userset) → is_met keys_now q ≡ cond (is_eq (ghosts.cmp z q)) true (is_met keys q))

-- of these usersets met before, these rows of a userset let more wait: each that it holds and that was not met
pub record LetsWait (y : Userset) (rows : List Tuple) (met : List Userset) (keys waiting waiting_before : List Userset) : Type 0 where
  pub more : List Userset
  pub waits : waiting ≡ waiting_before ++ more
  pub held : (z : Userset) → Contains more z → Contains rows (holding y (Set z))
  pub all : (z : Userset) → Contains rows (holding y (Set z)) → Contains met z ⊎ Contains more z
  pub walk : IsWalk keys (met ++ more)

-- The first userset that waits was walked; those that its rows name wait after the others, if they are met for the first time.
pub record IsWalked (y : Userset) (rest : List Userset) (rows : List Tuple) (old new : WalkValue) : Type 0 where
  pub walked : new.walked ≡ old.walked ++ y ∷ []
  pub more : List Userset
  pub waiting : new.waiting ≡ rest ++ more
  pub once : AreOnce (old.walked ++ y ∷ (rest ++ more))
  pub held : (z : Userset) → Contains more z → Contains rows (holding y (Set z))
  pub all : (z : Userset) → Contains rows (holding y (Set z)) → Contains (old.walked ++ old.waiting) z ⊎ Contains more z
