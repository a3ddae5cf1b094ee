-- How far a checkpoint has come in a list of records.
use Rattle.std.specs.Prelude.{◌≡◌, ◌≤◌, ℕ, List, [], ◌∷◌, Option, Some, None}
use Rattle.tuples.specs.Limits.{max_number}
use Rattle.records.specs.declared.mark.Inside.{Inside}
use Rattle.records.specs.declared.mark.Mark.TheVariants.{Begins, Ends}
use Rattle.records.specs.declared.mark.Stage.TheVariants.{Begun, Opened, Bounded, Listed, Doubted}
use Rattle.records.specs.declared.record.Record.{Record}
use Rattle.records.specs.declared.record.Record.TheVariants.{Prepare, Learned, Epoch, Horizon, Checkpoint}

-- one more record of a checkpoint that has not ended
abbrev pub inside_behind : Inside → Record → Option Inside
inside_behind i (Checkpoint (Ends generation)) = None
inside_behind i (Epoch epoch store shards node) = Some (record i { stage = Opened })
inside_behind i (Horizon place) = Some (record i { stage = Bounded })
inside_behind i (Learned to placed_ids) = Some (record i { stage = Listed })
inside_behind i (Prepare w) = Some (record i { stage = Doubted })
inside_behind i _ = Some i

-- one more record if no checkpoint has begun, or it has ended
abbrev pub begun_by : Record → Option Inside
begun_by (Checkpoint (Begins generation)) = Some (record { generation = generation; stage = Begun })
begun_by _ = None

abbrev pub inside_step : Option Inside → Record → Option Inside
inside_step None r = begun_by r
inside_step (Some i) r = inside_behind i r

abbrev pub inside_from : Option Inside → List Record → Option Inside
inside_from i [] = i
inside_from i (r ∷ rs) = inside_from (inside_step i r) rs

-- the checkpoint that has begun in these records and not ended
unfoldable pub inside_of : List Record → Option Inside
inside_of rs = inside_from None rs

-- a checkpoint comes first or not at all: the node was not opened before it
pub record IsFirst (epoch generation : ℕ) : Type 0 where
  pub unopened : epoch ≡ 0
  pub some : 1 ≤ generation
  pub greatest : generation ≤ max_number

-- the record begins a checkpoint, and may
abbrev pub MayBegin : ℕ → Record → Type 0
MayBegin epoch (Checkpoint (Begins generation)) = IsFirst epoch generation
MayBegin epoch _ = ⊥
