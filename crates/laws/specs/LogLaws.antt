-- Laws over lists of records, and over what is read of them.
use Rattle.std.specs.Prelude.{◌≡◌, ◌≤◌, ◌<◌, ℕ, Bool, true, List, Some, slice_get}
use Rattle.tuples.specs.declared.entry.Entry.{Entry}
use Rattle.tuples.specs.declared.entry.WriteId.{WriteId}
use Rattle.tuples.specs.declared.tuple.Tuple.{Tuple}
use Rattle.tuples.specs.declared.tupleset.Tupleset.{Tupleset}
use Rattle.tuples.specs.declared.version.Version.{Version}
use Rattle.tuples.specs.Log.{is_at}
use Rattle.tuples.specs.Order.{tuple_lt}
use Rattle.tuples.specs.Reads.{IsSelection}
use Rattle.tuples.specs.Versions.{collected, there_at, versions}
use Rattle.records.specs.declared.record.Record.TheVariants.{Prepare}
use Rattle.records.specs.Replays.{ShardState, shard_step}
use Rattle.laws.specs.Shards.{ShardMeans}
use Rattle.laws.specs.Worlds.{IsLog}

-- no write of the log has this id
abbrev pub IsUnlisted : WriteId → List Entry → Type 0
IsUnlisted id log = (j : ℕ) (w : Entry) → slice_get log j ≡ Some w → id ≡ w.id → ⊥

-- a prepare of a write that is not listed changes nothing of what a shard's records mean
abbrev pub PreparedMeansTheSame : Type 0
PreparedMeansTheSame = (shards s : ℕ) (log : List Entry) (hc h : ℕ) (state : ShardState) (p : Entry) → IsUnlisted p.id log
    → ShardMeans shards s log hc h state → ShardMeans shards s log hc h (shard_step state (Prepare p))

-- in a selection each tuple is before those that follow it, so each stands once
abbrev pub SelectionsAscend : Type 0
SelectionsAscend = (there : Tuple → Bool) (q : Tupleset) (rows : List Tuple) → IsSelection there q rows
    → (i j : ℕ) (t u : Tuple) → slice_get rows i ≡ Some t → slice_get rows j ≡ Some u → i < j → tuple_lt t u ≡ true

-- a set of tuples and a tupleset have one selection
abbrev pub SelectionsAreOne : Type 0
SelectionsAreOne = (there : Tuple → Bool) (q : Tupleset) (rows others : List Tuple) → IsSelection there q rows → IsSelection there q others → rows ≡ others

-- the versions of the first p writes under a horizon give back the snapshot at each place from the horizon up to p
abbrev pub VersionsGiveSnapshots : Type 0
VersionsGiveSnapshots = (log : List Entry) (p h s : ℕ) (t : Tuple) → IsLog log → h ≤ s → s ≤ p → there_at (versions log p h) s t ≡ is_at log s t

-- a later horizon collects what an earlier one left as it collects all
abbrev pub LaterHorizonsCollect : Type 0
LaterHorizonsCollect = (h later : ℕ) (rows : List Version) → h ≤ later → collected later (collected h rows) ≡ collected later rows
