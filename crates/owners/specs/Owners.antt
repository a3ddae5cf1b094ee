-- The one state of the list and of what callers began, what a pass holds of it, and what a step of it owes.
use Rattle.std.specs.Prelude.{◌≡◌, ℕ, false, List, [], ◌∷◌, Some, Contains}
use Rattle.atomic_table.specs.Seated.{TableId}
use Rattle.tuples.specs.declared.entry.Entry.{Entry}
use Rattle.tuples.specs.Log.{AreNew}
use Rattle.records.specs.Identity.{coordinator_number}
use Rattle.laws.specs.LogLaws.{IsUnlisted}
use Rattle.joint.specs.Whole.{Whole}
use Rattle.accord.specs.declared.fact.DecidedWrite.{DecidedWrite}
use Rattle.accord.specs.declared.goods.Begun.{Begun}
use Rattle.accord.specs.declared.parts.ListPart.{ListPart}
use Rattle.accord.specs.OwnedLists.{Goods, IsOwned, IsPlaced, IsPut, no_list}

-- The list is the coordinator's part, under its number among the nodes, and what callers began are the goods.
abbrev pub OwnersState : Type 0
OwnersState = Whole ListPart (List Begun)

abbrev pub IsOwnedIn : OwnersState → Type 0
IsOwnedIn whole = (p : ListPart) → whole.parts coordinator_number ≡ Some p → IsOwned p whole.goods

abbrev pub IsPlacedIn : OwnersState → DecidedWrite → Type 0
IsPlacedIn whole d = (p : ListPart) → whole.parts coordinator_number ≡ Some p → IsPlaced p d

-- a write that was never made
abbrev pub no_write : Entry
no_write = record { id = record { epoch = 0; number = 0 }; changes = []; conditions = [] }

-- the list that a pass holds
abbrev pub part_in : List (ℕ × ListPart) → ListPart
part_in [] = no_list
part_in (x ∷ more) = x.1

-- what a caller began, as its pass holds it
abbrev pub begun_in : List (ℕ × List Begun) → List Begun
begun_in [] = []
begun_in (x ∷ more) = x.1

-- the coordinator's pass: of which state it is, the list, and the decided writes that it knows
pub record ListHolding : Type 0 where
  pub table : TableId
  pub part : ListPart
  pub facts : List DecidedWrite

-- a caller's pass: of which state it is, all that the caller began, in order, and the decided writes that it knows
pub record CallerHolding : Type 0 where
  pub table : TableId
  pub begun : List Begun
  pub facts : List DecidedWrite

-- A step of the list alone: it stays owned, whatever callers began, and decided writes stay placed.
pub record GoesOnAlone (old new : ListPart) : Type 0 where
  pub owned : (goods : Goods) → IsOwned old goods → IsOwned new goods
  pub placed : (d : DecidedWrite) → IsPlaced old d → IsPlaced new d

-- A step of the list and of what one caller began, after which some writes are known as decided.
pub record GoesOnWith (old : ListPart) (begun : List Begun) (new : ListPart) (begun_now : List Begun) (known : List DecidedWrite) : Type 0 where
  pub owned : (goods goods_now : Goods) (k : ℕ) → IsOwned old goods → goods k ≡ Some begun → IsPut goods goods_now k begun_now → IsOwned new goods_now
  pub placed : (d : DecidedWrite) → IsPlaced old d → IsPlaced new d
  pub facts : (d : DecidedWrite) → Contains known d → IsPlaced new d

-- What a caller may count on: no write is listed twice, what it began and did not decide is not listed, and what it knows as decided stands at its place, or is
-- of an earlier epoch.
pub record IsLawful (p : ListPart) (begun : List Begun) (facts : List DecidedWrite) : Type 0 where
  pub distinct : AreNew p.log
  pub out : (b : Begun) → Contains begun b → b.is_decided ≡ false → IsUnlisted b.write.id p.log
  pub placed : (d : DecidedWrite) → Contains facts d → IsPlaced p d
