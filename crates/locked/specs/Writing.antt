-- How a write ends over a shared store, and what is so of it between two turns.
use Rattle.std.specs.Prelude.{◌≡◌, ◌⊎◌, ℕ, Bool, List}
use Rattle.refusal.specs.declared.refusal.Refusal.{Refusal}
use Rattle.refusal.specs.declared.refusal.Refusal.TheVariants.{NoMemory}
use Rattle.tuples.specs.declared.entry.Entry.{Entry}
use Rattle.tuples.specs.Writes.{WriteValue}
use Rattle.published.specs.Known.{Known}
use Rattle.calls.specs.Refusing.{HasTold}
use Rattle.commit_flow.specs.Views.{WriteView}
use Rattle.commit_flow.specs.declared.end.WriteEnd.{WriteEnd}
use Rattle.commit_flow.specs.declared.end.WriteEnd.TheVariants.{Refused, Wrote}
use Rattle.ties.specs.Ties.{Attempt}
use Rattle.sides.specs.CoordinatorSides.{IsTried}
use Rattle.flow_ties.specs.Writes.{IsWriteOf, IsWrittenAt}

-- All that a write holds is of the one that was asked for, and its decision, if it has one, is known as one of that.
abbrev pub IsKnownWriteOf : List Attempt → WriteValue → ℕ → List Entry → WriteView → Type 0
IsKnownWriteOf tried = IsWriteOf (IsTried tried)

-- The refusal, if it ends with one, was told by a node; or memory was refused before it began, and then its caller knows just what it knew.
abbrev pub WriteRefuses : Known Entry → Known Entry → List Bool → WriteEnd → Type 0
WriteRefuses old new marks end = (e : Refusal) → end ≡ Refused e → HasTold marks e ⊎ ((e ≡ NoMemory) × (new ≡ old))

-- The place, if it ends with one, is that of the write that was asked for: it stands there in the list, above all that had been seen, and its id nowhere else.
abbrev pub WriteEnds : WriteValue → ℕ → List Entry → WriteEnd → Type 0
WriteEnds asked before seen end = (place : ℕ) → end ≡ Wrote place → IsWrittenAt asked before seen place
