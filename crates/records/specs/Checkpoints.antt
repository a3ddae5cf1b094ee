-- Checkpoints: the generation of a bank's records, whether they are whole, and what a coordinator's checkpoint holds.
use Rattle.std.specs.Prelude.{◌+◌, ◌-◌, ◌==◌, ℕ, Bool, true, false, List, [], ◌∷◌, ◌++◌, Option, Some, None, drop}
use Rattle.std.specs.List.{list_any}
use Rattle.tuples.specs.declared.change.Change.{Change}
use Rattle.tuples.specs.declared.change.Change.TheVariants.{Touch, Delete}
use Rattle.tuples.specs.declared.entry.Entry.{Entry}
use Rattle.tuples.specs.declared.tuple.Tuple.{Tuple}
use Rattle.records.specs.Coordinators.{CoordinatorState}
use Rattle.records.specs.Identity.{Identity}
use Rattle.records.specs.Inside.{begun_by}
use Rattle.records.specs.declared.mark.Inside.{Inside}
use Rattle.records.specs.declared.mark.Mark.TheVariants.{Begins, Row, Ends}
use Rattle.records.specs.declared.record.Record.{Record}
use Rattle.records.specs.declared.record.Record.TheVariants.{Epoch, Decision, Horizon, Checkpoint}

-- the change of a tuple after which it is there, or is not
abbrev pub change_to : Bool → Tuple → Change
change_to true t = Touch t
change_to false t = Delete t

-- the mark of a version
abbrev pub row_record : ℕ → Bool → Tuple → Record
row_record place is_touch t = Checkpoint (Row place (change_to is_touch t))

abbrev pub generation_begun : Option Inside → ℕ
generation_begun None = 0
generation_begun (Some i) = i.generation

-- the generation of the records: that of the checkpoint with which they begin, else 0
unfoldable pub generation_of : List Record → ℕ
generation_of [] = 0
generation_of (r ∷ rs) = generation_begun (begun_by r)

-- the record ends the checkpoint of this generation
abbrev pub is_end : ℕ → Record → Bool
is_end generation (Checkpoint (Ends ended)) = ended == generation
is_end generation _ = false

abbrev pub is_ended : Option Inside → List Record → Bool
is_ended None rs = true
is_ended (Some i) rs = list_any (is_end i.generation) rs

-- the records are whole: there is one, and the checkpoint with which they begin has its end among them
unfoldable pub is_complete : List Record → Bool
is_complete [] = false
is_complete (r ∷ rs) = is_ended (begun_by r) rs

-- decisions from a place on
abbrev pub decisions_from : ℕ → List Entry → List Record
decisions_from place [] = []
decisions_from place (w ∷ log) = Decision place w ∷ decisions_from (place + 1) log

-- the checkpoint of a coordinator that knows this
unfoldable pub coordinator_checkpoint : Identity → ℕ → CoordinatorState → List Record
coordinator_checkpoint me generation s =
    Checkpoint (Begins generation) ∷ Epoch s.epoch me.store me.shards me.node ∷ Horizon s.horizon ∷ decisions_from (s.horizon + 1) (drop (s.horizon - s.base) s.log) ++ Checkpoint (Ends generation) ∷ []
