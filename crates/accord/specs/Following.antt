-- The list as its coordinator has it follows the coordinator's own calls.
use Rattle.std.specs.Prelude.{◌≡◌, ◌≤◌, ◌+◌, List, length, drop, map}
use Rattle.tuples.specs.declared.change.Change.{Change}
use Rattle.tuples.specs.declared.change.Condition.{Condition}
use Rattle.tuples.specs.declared.entry.Entry.{Entry}
use Rattle.tuples.specs.declared.entry.WriteId.{WriteId}
use Rattle.decisions.specs.Coordinators.{AbortsAt, BeginsAt, CoordinatorView, DecidesAt, memory_of}
use Rattle.decisions.specs.Standing.{DecidedValue}
use Rattle.decisions.specs.Values.{IntentValue}
use Rattle.accord.specs.declared.parts.ListPart.{ListPart}
use Rattle.accord.specs.OwnedLists.{IsOpen, next_of, with_aborted, with_listed, with_open}

-- It is of this coordinator: its epoch, how many ids it gave, the ids of the writes that are open, and the list that its decisions are of, durable or staged.
pub record IsPartOf {D : Type 0} (v : CoordinatorView D) (p : ListPart) : Type 0 where
  pub epoch : p.epoch ≡ (memory_of v).epoch
  pub given : p.given ≡ v.given
  pub open_ids : map (λ (w : Entry). w.id) p.open_writes ≡ v.open_ids
  pub base : (memory_of v).base ≤ length p.log
  pub decisions : (memory_of v).log ≡ drop (memory_of v).base p.log

-- the id of a write that is begun is the next
abbrev pub BeginningsFollow : Type 0 → Type 0
BeginningsFollow D = (old new : CoordinatorView D) (changes : List Change) (conditions : List Condition) (i : IntentValue) (p : ListPart) → IsPartOf old p → BeginsAt old changes conditions i new
    → (i.write.id ≡ next_of p) × IsPartOf new (with_open p i.write)

-- a write that is decided was open, and stands at the end of the list
abbrev pub DecisionsFollow : Type 0 → Type 0
DecisionsFollow D = (old new : CoordinatorView D) (w : Entry) (d : DecidedValue) (p : ListPart) → IsPartOf old p → DecidesAt old w d new
    → IsOpen p w.id × IsPartOf new (with_listed p w) × (d.epoch ≡ p.epoch) × (d.place ≡ length p.log + 1)

abbrev pub AbortsFollow : Type 0 → Type 0
AbortsFollow D = (old new : CoordinatorView D) (id : WriteId) (p : ListPart) → IsPartOf old p → AbortsAt old id new → IsPartOf new (with_aborted p id)
