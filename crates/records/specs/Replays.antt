-- What the records of a shard stand for, and which lists of records a shard can have.
use Rattle.std.specs.Prelude.{◌≡◌, ◌⊎◌, ◌≤◌, ◌<◌, ◌+◌, ℕ, Bool, true, false, List, [], ◌∷◌, ◌++◌, Option, Some, None, if◌then◌else◌, All}
use Rattle.std.specs.Ordering.{match_ordering, nat_cmp, ordering_then}
use Rattle.std.specs.declared.cmp.Ordering.{Ordering}
use Rattle.tuples.specs.declared.tuple.Tuple.{Tuple}
use Rattle.tuples.specs.declared.change.Change.{Change}
use Rattle.tuples.specs.declared.change.Condition.{Condition}
use Rattle.tuples.specs.declared.change.Want.{Want}
use Rattle.tuples.specs.declared.change.Want.TheVariants.{NotAfter, Exists, Absent}
use Rattle.tuples.specs.declared.entry.Entry.{Entry}
use Rattle.tuples.specs.declared.entry.WriteId.{WriteId}
use Rattle.tuples.specs.declared.version.Version.{Version}
use Rattle.tuples.specs.Changes.{changed, conditioned, has_tuple, tuple_of}
use Rattle.tuples.specs.Limits.{max_number}
use Rattle.tuples.specs.Log.{same_id}
use Rattle.tuples.specs.Parts.{shard_of}
use Rattle.tuples.specs.Versions.{placed, collected, last_version}
use Rattle.records.specs.Format.{AreRisingTo}
pub use Rattle.records.specs.Identity.{Identity}
use Rattle.records.specs.Inside.{MayBegin, inside_of}
use Rattle.records.specs.declared.mark.Inside.{Inside}
use Rattle.records.specs.declared.mark.Mark.{Mark}
use Rattle.records.specs.declared.mark.Mark.TheVariants.{Begins, Row, Ends}
use Rattle.records.specs.declared.mark.Stage.TheVariants.{Begun, Opened, Bounded, Listed, Doubted}
use Rattle.records.specs.declared.record.PlacedId.{PlacedId}
use Rattle.records.specs.declared.record.Record.{Record}
use Rattle.records.specs.declared.record.Record.TheVariants.{Prepare, Learned, Dropped, Epoch, Decision, Horizon, Checkpoint}

-- what a shard knows: the writes in doubt, ascending by id; the place up to which decisions are applied;
-- the horizon; its versions, in the order of the log; and how often it was opened
pub record ShardState : Type 0 where
  pub in_doubt : List Entry
  pub learned : ℕ
  pub horizon : ℕ
  pub rows : List Version
  pub epoch : ℕ

-- the order of ids
abbrev pub id_cmp : WriteId → WriteId → Ordering
id_cmp a b = ordering_then (nat_cmp a.epoch b.epoch) (nat_cmp a.number b.number)

-- a write put in its place among writes that ascend by id, instead of one that has its id
abbrev pub put : Entry → List Entry → List Entry
put w [] = w ∷ []
put w (v ∷ ws) = match_ordering (id_cmp w.id v.id) (w ∷ v ∷ ws) (w ∷ ws) (v ∷ put w ws)

abbrev pub find_in_doubt : WriteId → List Entry → Option Entry
find_in_doubt id [] = None
find_in_doubt id (w ∷ ws) = if same_id w.id id then Some w else find_in_doubt id ws

abbrev pub without : WriteId → List Entry → List Entry
without id [] = []
without id (w ∷ ws) = if same_id w.id id then without id ws else w ∷ without id ws

abbrev pub without_placed_ids : List PlacedId → List Entry → List Entry
without_placed_ids [] ws = ws
without_placed_ids (p ∷ placed_ids) ws = without_placed_ids placed_ids (without p.id ws)

abbrev pub changes_at : ℕ → Option Entry → List Version
changes_at place None = []
changes_at place (Some w) = placed place w.changes

-- the versions that learning these placed ids adds
abbrev pub learned_rows : List PlacedId → List Entry → List Version
learned_rows [] ws = []
learned_rows (p ∷ placed_ids) ws = changes_at p.place (find_in_doubt p.id ws) ++ learned_rows placed_ids ws

-- the versions that a mark of a checkpoint adds
abbrev pub marked_rows : Mark → List Version
marked_rows (Begins generation) = []
marked_rows (Row place change) = record { place = place; change = change } ∷ []
marked_rows (Ends generation) = []

-- what one more record makes of it
unfoldable pub shard_step : ShardState → Record → ShardState
shard_step s (Prepare w) = record s { in_doubt = put w s.in_doubt }
shard_step s (Learned to placed_ids) = record s { learned = to; rows = s.rows ++ learned_rows placed_ids s.in_doubt; in_doubt = without_placed_ids placed_ids s.in_doubt }
shard_step s (Dropped id) = record s { in_doubt = without id s.in_doubt }
shard_step s (Epoch epoch store shards node) = record s { epoch = epoch }
shard_step s (Decision place w) = s
shard_step s (Horizon place) = record s { horizon = place; rows = collected place s.rows }
shard_step s (Checkpoint mark) = record s { rows = s.rows ++ marked_rows mark }

abbrev pub shard_from : ShardState → List Record → ShardState
shard_from s [] = s
shard_from s (r ∷ rs) = shard_from (shard_step s r) rs

abbrev pub empty_shard : ShardState
empty_shard = record { in_doubt = []; learned = 0; horizon = 0; rows = []; epoch = 0 }

-- what the records of a shard stand for
unfoldable pub shard_state : List Record → ShardState
shard_state rs = shard_from empty_shard rs

-- the tuples that a write names, changed or conditioned
abbrev pub named : Entry → List Tuple
named w = changed w.changes ++ conditioned w.conditions

-- a write in doubt names the tuple
abbrev pub is_held : Tuple → List Entry → Bool
is_held t [] = false
is_held t (w ∷ ws) = if has_tuple t (named w) then true else is_held t ws

-- the greatest place, epoch and number of a write
abbrev pub greatest_number : ℕ
greatest_number = max_number

-- a place that is asked about is one that a log can have
abbrev pub AsksOfLog : Want → Type 0
AsksOfLog (NotAfter place) = place ≤ greatest_number
AsksOfLog Exists = Unit {0}
AsksOfLog Absent = Unit {0}

abbrev pub AskOfLog : List Condition → Type 0
AskOfLog = All (λ (c : Condition). AsksOfLog c.want)

-- a write may be prepared at this shard: its id is not in doubt, its tuples are the shard's and free, and its conditions ask about places of a log
pub record MayPrepare (me : Identity) (s : ShardState) (w : Entry) : Type 0 where
  pub opened : 1 ≤ s.epoch
  pub new : find_in_doubt w.id s.in_doubt ≡ None
  pub own : All (λ (t : Tuple). shard_of me.shards t.object ≡ me.node) (named w)
  pub free : All (λ (t : Tuple). is_held t s.in_doubt ≡ false) (named w)
  pub some_epoch : 1 ≤ w.id.epoch
  pub epoch : w.id.epoch ≤ greatest_number
  pub some_number : 1 ≤ w.id.number
  pub number : w.id.number ≤ greatest_number
  pub places : AskOfLog w.conditions

-- the parts name writes in doubt, each a different one
abbrev pub ArePrepared : List PlacedId → List Entry → Type 0
ArePrepared [] ws = Unit {0}
ArePrepared (p ∷ placed_ids) ws = ((w : Entry) × (find_in_doubt p.id ws ≡ Some w)) × ArePrepared placed_ids (without p.id ws)

-- decisions up to a place may be applied: it is no lower than the one before, and the parts lie above that, at rising places up to the new one
pub record MayLearn (s : ShardState) (to : ℕ) (placed_ids : List PlacedId) : Type 0 where
  pub opened : 1 ≤ s.epoch
  pub on : s.learned ≤ to
  pub place : to ≤ greatest_number
  pub above : All (λ (p : PlacedId). s.learned < p.place) placed_ids
  pub places : AreRisingTo to placed_ids
  pub prepared : ArePrepared placed_ids s.in_doubt

-- the shard may be opened once more
pub record MayOpen (me : Identity) (s : ShardState) (epoch store shards node : ℕ) : Type 0 where
  pub next : epoch ≡ s.epoch + 1
  pub greatest : epoch ≤ greatest_number
  pub same_store : store ≡ me.store
  pub same_shards : shards ≡ me.shards
  pub same_node : node ≡ me.node

pub record MayDrop (s : ShardState) (id : WriteId) : Type 0 where
  pub opened : 1 ≤ s.epoch
  pub prepared : (w : Entry) × (find_in_doubt id s.in_doubt ≡ Some w)

pub record MayCollect (s : ShardState) (place : ℕ) : Type 0 where
  pub opened : 1 ≤ s.epoch
  pub on : s.horizon ≤ place
  pub within : place ≤ s.learned

-- the record may come next at this shard, if no checkpoint is under way
abbrev pub MayCome : Identity → ShardState → Record → Type 0
MayCome me s (Prepare w) = MayPrepare me s w
MayCome me s (Learned to placed_ids) = MayLearn s to placed_ids
MayCome me s (Dropped id) = MayDrop s id
MayCome me s (Epoch epoch store shards node) = MayOpen me s epoch store shards node
MayCome me s (Decision place w) = ⊥
MayCome me s (Horizon place) = MayCollect s place
MayCome me s (Checkpoint mark) = ⊥

-- ---- within a checkpoint: one Epoch record, one Horizon, one Learned record without parts, the versions, the writes in doubt

-- the openings of a node so far are not in a checkpoint, so any epoch may stand there
pub record MayTakeEpoch (me : Identity) (i : Inside) (epoch store shards node : ℕ) : Type 0 where
  pub after : i.stage ≡ Begun
  pub some : 1 ≤ epoch
  pub greatest : epoch ≤ greatest_number
  pub same_store : store ≡ me.store
  pub same_shards : shards ≡ me.shards
  pub same_node : node ≡ me.node

-- whether it is within what is learned is tested when the checkpoint ends
pub record MayTakeHorizon (i : Inside) (before place : ℕ) : Type 0 where
  pub after : i.stage ≡ Opened
  pub on : before ≤ place
  pub fits : place ≤ greatest_number

pub record MayTakeLearned (i : Inside) (s : ShardState) (to : ℕ) (placed_ids : List PlacedId) : Type 0 where
  pub after : i.stage ≡ Bounded
  pub no_parts : placed_ids ≡ []
  pub may : MayLearn s to placed_ids

-- a version of a tuple of this shard, of a write that is learned, no older than the versions of that tuple so far
pub record MayTakeRow (me : Identity) (i : Inside) (s : ShardState) (place : ℕ) (change : Change) : Type 0 where
  pub after : i.stage ≡ Listed
  pub some : 1 ≤ place
  pub on : last_version s.rows (tuple_of change) ≤ place
  pub learned : place ≤ s.learned
  pub own : shard_of me.shards (tuple_of change).object ≡ me.node

pub record MayTakePrepare (me : Identity) (i : Inside) (s : ShardState) (w : Entry) : Type 0 where
  pub after : (i.stage ≡ Listed) ⊎ (i.stage ≡ Doubted)
  pub may : MayPrepare me s w

pub record MayEnd (i : Inside) (s : ShardState) (generation : ℕ) : Type 0 where
  pub after : (i.stage ≡ Listed) ⊎ (i.stage ≡ Doubted)
  pub same : generation ≡ i.generation
  pub within : s.horizon ≤ s.learned

abbrev pub MayMark : Identity → Inside → ShardState → Mark → Type 0
MayMark me i s (Begins generation) = ⊥
MayMark me i s (Row place change) = MayTakeRow me i s place change
MayMark me i s (Ends generation) = MayEnd i s generation

-- the record may come next at this shard, within a checkpoint
abbrev pub MayComeInside : Identity → Inside → ShardState → Record → Type 0
MayComeInside me i s (Prepare w) = MayTakePrepare me i s w
MayComeInside me i s (Learned to placed_ids) = MayTakeLearned i s to placed_ids
MayComeInside me i s (Dropped id) = ⊥
MayComeInside me i s (Epoch epoch store shards node) = MayTakeEpoch me i epoch store shards node
MayComeInside me i s (Decision place w) = ⊥
MayComeInside me i s (Horizon place) = MayTakeHorizon i s.horizon place
MayComeInside me i s (Checkpoint mark) = MayMark me i s mark

-- the record may follow those that were read, whether or not a checkpoint has begun among them
abbrev pub MayFollow : Identity → Option Inside → ShardState → Record → Type 0
MayFollow me None s r = MayCome me s r ⊎ MayBegin s.epoch r
MayFollow me (Some i) s r = MayComeInside me i s r

-- records of this shard, from the first on: each may follow those before it
abbrev pub BeginsShardImage : Identity → List Record → Type 0
BeginsShardImage me rs = (before after : List Record) (r : Record) → rs ≡ before ++ r ∷ after → MayFollow me (inside_of before) (shard_state before) r

-- the records of this shard: those of a checkpoint, if they begin with one, up to its end, and then each that may come after those
-- before it. The first of the others is its first opening, since nothing else may come before one.
pub record IsShardImage (me : Identity) (rs : List Record) : Type 0 where
  pub each : BeginsShardImage me rs
  pub whole : inside_of rs ≡ None
