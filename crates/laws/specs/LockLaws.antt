-- Laws of writes in doubt: no two at a shard name one tuple, so the conditions of one still hold if another is decided.
use Rattle.std.specs.Prelude.{◌≡◌, ◌≢◌, ◌≤◌, ◌<◌, ◌++◌, ℕ, true, List, [], ◌∷◌, Some, Contains, false}
use Rattle.tuples.specs.declared.change.Condition.{Condition}
use Rattle.tuples.specs.declared.entry.Entry.{Entry}
use Rattle.tuples.specs.Log.{HoldAfter, Holds, meets_want}
use Rattle.tuples.specs.Parts.{expected, part, takes_part, shard_of}
use Rattle.records.specs.declared.record.Record.{Record}
use Rattle.records.specs.Coordinators.{CoordinatorState, HoldsKnown}
use Rattle.tuples.specs.declared.change.Want.TheVariants.{NotAfter}
use Rattle.records.specs.Replays.{Identity, IsShardImage, ShardState, find_in_doubt, shard_state, is_held}
use Rattle.shard.specs.Shards.{AreFree, HoldHere}
use Rattle.laws.specs.Shards.{ShardMeans}
use Rattle.laws.specs.Worlds.{IsLog}
use Rattle.laws.specs.Coordinators.{CoordinatorMeans}
use Rattle.holds.specs.Holds.{AreApart}
use Rattle.tuples.specs.Versions.{last_version, there_at}

-- no two writes in doubt at a shard have one id, or name one tuple, whatever its records are
abbrev pub DoubtsAreApart : Type 0
DoubtsAreApart = (me : Identity) (records : List Record) → IsShardImage me records → AreApart (shard_state records).in_doubt

-- A decision of one write leaves the conditions of another's part as they are, at a shard that has both in doubt, so far as each has a part.
abbrev pub DecisionsLeaveConditions : Type 0
DecisionsLeaveConditions = (shards s : ℕ) (log : List Entry) (v w : Entry) (in_doubt : List Entry) → AreApart in_doubt → v.id ≢ w.id
    → find_in_doubt w.id in_doubt ≡ expected shards s w → find_in_doubt v.id in_doubt ≡ Some (part shards s v)
    → HoldAfter log (part shards s v).conditions → HoldAfter (log ++ w ∷ []) (part shards s v).conditions

-- the conditions of a write hold if those of each participant's part do
abbrev pub ConditionsHoldByParts : Type 0
ConditionsHoldByParts = (shards : ℕ) (log : List Entry) (w : Entry) → 1 ≤ shards
    → ((s : ℕ) → s < shards → takes_part shards s w ≡ true → HoldAfter log (part shards s w).conditions) → HoldAfter log w.conditions

-- a condition that holds after the log holds as far as the decisions that a coordinator knows decide it
abbrev pub ConditionsHoldAsKnown : Type 0
ConditionsHoldAsKnown = (log : List Entry) (h : ℕ) (state : CoordinatorState) (c : Condition) → CoordinatorMeans log h state → Holds log c → HoldsKnown state c

-- What a shard tests of its part before it prepares it is so after the whole log: no write in doubt names a tuple of it, its conditions hold by
-- the shard's versions, and none names a place below the shard's horizon.
pub record IsPreparable (state : ShardState) (w : Entry) : Type 0 where
  pub free : AreFree state w
  pub hold : HoldHere state w.conditions
  pub above : (c : Condition) (place : ℕ) → Contains w.conditions c → c.want ≡ NotAfter place → state.horizon ≤ place

abbrev pub PreparableConditionsHold : Type 0
PreparableConditionsHold = (shards s : ℕ) (log : List Entry) (hc h : ℕ) (state : ShardState) (w : Entry) → IsLog log → h ≤ hc
    → ShardMeans shards s log hc h state → IsPreparable state (part shards s w) → HoldAfter log (part shards s w).conditions

-- the condition is met by the versions that a shard has learned
abbrev pub IsMetHere : ShardState → Condition → Type 0
IsMetHere state c = meets_want c.want (last_version state.rows c.tuple) (there_at state.rows state.learned c.tuple) ≡ true

-- A condition that is met after the whole log is met by the rows of its tuple's shard, if no write in doubt there names the tuple: so what the shard
-- finds broken is broken.
abbrev pub MetConditionsAreMetHere : Type 0
MetConditionsAreMetHere = (shards s : ℕ) (log : List Entry) (hc h : ℕ) (state : ShardState) (c : Condition) → IsLog log → h ≤ hc → ShardMeans shards s log hc h state
    → shard_of shards c.tuple.object ≡ s → is_held c.tuple state.in_doubt ≡ false → Holds log c → IsMetHere state c
