-- What a running flow holds is right: one record for each kind of flow.
use Rattle.std.specs.Prelude.{◌≡◌, ◌≢◌, ◌⊎◌, ◌≤◌, ◌<◌, ◌-◌, ℕ, true, false, List, [], ◌∷◌, ◌++◌, length, Option, Some, None, Contains, All, slice_get}
use Rattle.tuples.specs.declared.change.Change.{Change}
use Rattle.tuples.specs.declared.change.Condition.{Condition}
use Rattle.tuples.specs.declared.entry.Entry.{Entry}
use Rattle.tuples.specs.declared.entry.WriteId.{WriteId}
use Rattle.tuples.specs.declared.object.Userset.{Userset}
use Rattle.refusal.specs.declared.refusal.Refusal.{Refusal}
use Rattle.refusal.specs.declared.refusal.Refusal.TheVariants.{Unsure}
use Rattle.tuples.specs.declared.tuple.Tuple.{Tuple}
use Rattle.tuples.specs.declared.tupleset.Tupleset.{Tupleset}
use Rattle.tuples.specs.declared.user.User.{User}
use Rattle.tuples.specs.Log.{HoldAfter, is_at}
use Rattle.tuples.specs.Parts.{part, takes_part}
use Rattle.tuples.specs.Reads.{IsSelection}
use Rattle.records.specs.declared.record.Record.{Record}
use Rattle.records.specs.Coordinators.{CoordinatorState, coordinator_state}
use Rattle.records.specs.Replays.{ShardState, shard_state, find_in_doubt}
use Rattle.decisions.specs.Values.{IntentValue, BatchValue}
use Rattle.decisions.specs.Standing.{HeadsValue, DecidedValue, SettledValue, IsPromised, IsSettled, IsShardEpoch, IsGivenOut}
use Rattle.laws.specs.LogLaws.{IsUnlisted}
use Rattle.laws.specs.ShardLaws.{AreOfLog, IsUnlistedAbove}
use Rattle.laws.specs.Shards.{there_below}
use Rattle.laws.specs.Walks.{IsWalk}
use Rattle.laws.specs.Machines.{Machine}
use Rattle.laws.specs.Nodes.{NodeName, coordinator, shard, up, down, Nodes, leaves, ShardKnows, CoordinatorKnows, IsGivenBy}
use Rattle.stores.specs.Flows.{Freshness, Asked, to_write, to_read, to_check, to_watch, to_flush, to_learn, to_resolve, to_raise, to_collect, HeldTicket, HeldVote, onward, outward, WriteHolds, ReadHolds, CheckHolds, HeadsHeld, ResolveHolds, RaiseHolds, Resolved, committed, aborted, undecided, Holds, writing, reading, checking, watching, flushing, learning, resolving, raising, collecting}
use Rattle.stores.specs.Moments.{Moment, Running, SawFirst, WasKept}
use Rattle.stores.specs.Replies.{IsPlaceOf, IsResolved}

-- decisions on their way to a shard: those of the log after a place, all of them kept
pub record IsRightBatch (m : Machine) (b : BatchValue) : Type 0 where
  pub kept : b.from ≤ m.kept
  pub within : length b.writes ≤ m.kept - b.from
  pub writes : AreOfLog m.log b.from b.writes

-- heads: a place that was kept after one of the flow's turns, and a durable horizon, no lower than the one after its first turn
pub record AreRightHeads (r : Running) (m : Machine) (heads : HeadsValue) : Type 0 where
  pub was : WasKept r heads.kept
  pub kept : heads.kept ≤ m.kept
  pub horizon : heads.horizon ≤ m.horizon
  pub ordered : heads.horizon ≤ heads.kept
  pub above : (first : Machine) → SawFirst r first → first.horizon ≤ heads.horizon

-- what a flow holds in an option is right
abbrev pub IfHeld : {X : Type 0} → Option X → (X → Type 0) → Type 0
IfHeld {X} o P = (x : X) → o ≡ Some x → P x

-- the write of a flow under its id
abbrev pub own_write : WriteId → List Change → List Condition → Entry
own_write id changes conditions = record { id = id; changes = changes; conditions = conditions }

-- a write that is open at the coordinator
abbrev pub IsOpen : Nodes → Entry → Type 0
IsOpen nodes w = Contains nodes.open_writes w

-- a ticket or a vote of this shard
abbrev pub HoldsOf : WriteHolds → ℕ → Type 0
HoldsOf h s = ((t : HeldTicket) × Contains h.tickets t × (t.shard ≡ s)) ⊎ ((v : HeldVote) × Contains h.votes v × (v.shard ≡ s))

-- The store has this many shards, and a stop may leave this of each node.
module _ (shards : ℕ) (left : NodeName → List Record → Type 0) where
  -- An id that was given out: each stop leaves an epoch at or above its own, and a coordinator that is up gave it.
  pub record WasGiven (nodes : Nodes) (id : WriteId) : Type 0 where
    pub epoch : IsGivenOut (left coordinator) id
    pub now : (kept memory : CoordinatorState) → CoordinatorKnows nodes kept memory → IsGivenBy nodes memory id

  -- A verdict of abort: the id was given out and is not open, and no write above the horizon has it.
  pub record IsRightVerdict (now : Moment) (id : WriteId) : Type 0 where
    pub given : WasGiven now.nodes id
    pub closed : (w : Entry) → IsOpen now.nodes w → w.id ≢ id
    pub none : IsUnlistedAbove now.machine.horizon id now.machine.log

  -- A write that is not decided: it is not listed, its id was given out, and each prepare of it, staged or in what a stop leaves, is
  -- exactly the shard's part.
  pub record IsUndecided (now : Moment) (w : Entry) : Type 0 where
    pub unlisted : IsUnlisted w.id now.machine.log
    pub given : WasGiven now.nodes w.id
    pub exact : (s : ℕ) (found : List Record) (p : Entry) → s < shards → leaves left now.nodes (shard s) found
        → find_in_doubt w.id (shard_state found).in_doubt ≡ Some p → (takes_part shards s w ≡ true) × (p ≡ part shards s w)

  -- A ticket is of the flow's own write, of a shard that takes part in it, and of an epoch of that shard. If the write is open and the
  -- shard is still up in that epoch, it has the prepare.
  pub record IsRightTicket (now : Moment) (w : Entry) (t : HeldTicket) : Type 0 where
    pub own : t.id ≡ w.id
    pub there : t.shard < shards
    pub takes : takes_part shards t.shard w ≡ true
    pub epoch : IsShardEpoch (left (shard t.shard)) t.epoch
    pub prepared : IsOpen now.nodes w → (memory : ShardState) → ShardKnows now.nodes t.shard memory → memory.epoch ≡ t.epoch
        → find_in_doubt t.id memory.in_doubt ≡ Some (part shards t.shard w)

  -- A vote is of the flow's own write, and of a shard that takes part in it. If the write is open, that shard has its prepare, whatever a
  -- stop leaves, with what is staged or without.
  pub record IsRightVote (now : Moment) (w : Entry) (v : HeldVote) : Type 0 where
    pub own : v.id ≡ w.id
    pub there : v.shard < shards
    pub takes : takes_part shards v.shard w ≡ true
    pub prepared : IsOpen now.nodes w → IsPromised (leaves left now.nodes (shard v.shard)) v.id (part shards v.shard w)

  -- An intent that is not spent: of the flow's own write, begun at a place that is kept. While the coordinator is up in its epoch it is open,
  -- and while it is open the conditions of each prepare of it hold after the log.
  pub record IsRightIntent (now : Moment) (w : Entry) (intent : IntentValue) : Type 0 where
    pub own : intent.write ≡ w
    pub kept : intent.kept ≤ now.machine.kept
    pub opened : (kept memory : CoordinatorState) → CoordinatorKnows now.nodes kept memory → memory.epoch ≡ w.id.epoch → IsOpen now.nodes w
    pub conditions : IsOpen now.nodes w → (s : ℕ) (found : List Record) (p : Entry) → s < shards → leaves left now.nodes (shard s) found
        → find_in_doubt w.id (shard_state found).in_doubt ≡ Some p → HoldAfter now.machine.log p.conditions

  -- A decision: under an id that was given out. In this epoch of the coordinator the log has the flow's own write at its place.
  pub record IsRightDecision (now : Moment) (w : Entry) (d : DecidedValue) : Type 0 where
    pub counted : 1 ≤ d.place
    pub epoch : d.epoch ≡ w.id.epoch
    pub given : WasGiven now.nodes w.id
    pub there : (kept memory : CoordinatorState) → CoordinatorKnows now.nodes kept memory → memory.epoch ≡ d.epoch
        → slice_get now.machine.log (d.place - 1) ≡ Some w

  -- On its way to the decision the flow holds a ticket or a vote of each shard that has a prepare of the write, staged or in what a stop leaves.
  abbrev pub HoldsOfEach : Moment → Running → Entry → WriteHolds → Type 0
  HoldsOfEach now r w h = h.way ≡ onward → r.decided ≡ None → (s : ℕ) (found : List Record) (p : Entry) → s < shards → leaves left now.nodes (shard s) found
      → find_in_doubt w.id (shard_state found).in_doubt ≡ Some p → HoldsOf h s

  -- What a write flow holds under its id: of its own write, all of it. A write whose intent is not spent is open, unless the coordinator was
  -- opened since the flow began.
  pub record IsRightOwn (now : Moment) (r : Running) (w : Entry) (h : WriteHolds) : Type 0 where
    pub undecided : r.decided ≡ None → IsUndecided now w
    pub intent : IfHeld h.intent (λ intent. (r.decided ≡ None) × IsRightIntent now w intent)
    pub tickets : All (IsRightTicket now w) h.tickets
    pub votes : All (IsRightVote now w) h.votes
    pub decision : IfHeld h.decided (IsRightDecision now w)
    pub verdict : IfHeld h.verdict (λ id. (id ≡ w.id) × IsRightVerdict now id)
    pub not_reopened : IfHeld h.intent (λ intent. r.is_reopened ≡ false → IsOpen now.nodes w)
    pub gave : HoldsOfEach now r w h

  -- a write flow that was not begun holds nothing yet
  pub record HoldsNothing (h : WriteHolds) : Type 0 where
    pub intent : h.intent ≡ None
    pub tickets : h.tickets ≡ []
    pub votes : h.votes ≡ []
    pub decided : h.decided ≡ None
    pub verdict : h.verdict ≡ None

  -- What a write flow holds. It holds a decision once it has made one. On its way out it has made none, and has met the refusal that it will
  -- answer, which is not Unsure. If it was cancelled before the decision, it goes out.
  pub record IsRightWrite (now : Moment) (r : Running) (changes : List Change) (conditions : List Condition) (h : WriteHolds) : Type 0 where
    pub nothing : h.id ≡ None → HoldsNothing h
    pub own : (id : WriteId) → h.id ≡ Some id → IsRightOwn now r (own_write id changes conditions) h
    pub same_decision : h.decided ≡ r.decided
    pub batch : IfHeld h.batch (IsRightBatch now.machine)
    pub out : (met : Option Refusal) → h.way ≡ outward met → (r.decided ≡ None) × ((e : Refusal) → met ≡ Some e → (r.met ≡ Some e) × (e ≢ Unsure))
    pub cancelled : r.is_cancelled ≡ true → r.decided ≡ None → (met : Option Refusal) × (h.way ≡ outward met)
    pub refused_or_cancelled : h.way ≡ outward None → r.is_cancelled ≡ true

  -- What a read holds: the rows of each tupleset that is done, and of the next one the rows of the shards that were asked, at its place.
  pub record IsRightRead (now : Moment) (r : Running) (fresh : Freshness) (sets : List Tupleset) (h : ReadHolds) : Type 0 where
    pub heads : IfHeld h.heads (AreRightHeads r now.machine)
    pub place : IfHeld h.place (IsPlaceOf fresh r now.machine)
    pub done : (s i : ℕ) (q : Tupleset) (rows : List Tuple) → h.place ≡ Some s → slice_get sets i ≡ Some q → slice_get h.done i ≡ Some rows
        → IsSelection (is_at now.machine.log s) q rows
    pub few : length h.done ≤ length sets
    pub rows : (s : ℕ) (q : Tupleset) → h.place ≡ Some s → slice_get sets (length h.done) ≡ Some q → IsSelection (there_below shards h.below now.machine.log s) q h.rows
    pub nothing : h.place ≡ None → (h.done ≡ []) × (h.below ≡ 0) × (h.rows ≡ [])
    pub batch : IfHeld h.batch (IsRightBatch now.machine)

  -- What a check holds: the asked userset, and once it has its place what it has met on its walk from there.
  pub record IsRightCheck (now : Moment) (r : Running) (fresh : Freshness) (x : Userset) (u : User) (h : CheckHolds) : Type 0 where
    pub heads : IfHeld h.heads (AreRightHeads r now.machine)
    pub place : IfHeld h.place (IsPlaceOf fresh r now.machine)
    pub nothing : h.place ≡ None → (h.walked ≡ []) × (h.waiting ≡ x ∷ [])
    pub walk : IfHeld h.place (λ s. IsWalk (is_at now.machine.log s) x u h.walked h.waiting)
    pub batch : IfHeld h.batch (IsRightBatch now.machine)

  -- What a watch, a learning or a collection holds.
  pub record AreHeldHeads (now : Moment) (r : Running) (h : HeadsHeld) : Type 0 where
    pub heads : IfHeld h.heads (AreRightHeads r now.machine)
    pub batch : IfHeld h.batch (IsRightBatch now.machine)

  -- what a resolution keeps of one write
  abbrev pub IsRightResolved : Moment → Resolved → Type 0
  IsRightResolved now (committed id p) = IsResolved now.machine (committed id p)
  IsRightResolved now (aborted id) = IsRightVerdict now id
  IsRightResolved now (undecided id) = Unit {0}

  -- What a resolution holds: what it found is so, and stays so.
  pub record IsRightResolve (now : Moment) (h : ResolveHolds) : Type 0 where
    pub found : All (IsRightResolved now) h.found
    pub verdict : IfHeld h.verdict (IsRightVerdict now)
    pub batch : IfHeld h.batch (IsRightBatch now.machine)

  -- what a shard has settled is learned there, whatever a stop leaves, and reaches up to the place of the raise
  pub record IsRightSettled (x : ℕ) (settled : SettledValue) : Type 0 where
    pub there : settled.shard < shards
    pub enough : x ≤ settled.place
    pub learned : IsSettled (left (shard settled.shard)) settled.place

  -- what the coordinator knows has a horizon at or above the place, staged or durable
  pub record IsStaged (nodes : Nodes) (x : ℕ) : Type 0 where
    pub durable : List Record
    pub staged : List Record
    pub is_up : nodes.at coordinator ≡ up durable staged
    pub enough : x ≤ (coordinator_state (durable ++ staged)).horizon

  -- What a raise to x holds. Once the coordinator has taken it, the horizon is at x, or a record of it is staged; unless the
  -- coordinator went down or was opened since.
  pub record IsRightRaise (now : Moment) (r : Running) (x : ℕ) (h : RaiseHolds) : Type 0 where
    pub named : Contains now.named x
    pub heads : IfHeld h.heads (AreRightHeads r now.machine)
    pub settled : All (IsRightSettled x) h.settled
    pub batch : IfHeld h.batch (IsRightBatch now.machine)
    pub raised : h.is_raised ≡ true → r.is_reopened ≡ false → (x ≤ now.machine.horizon) ⊎ (IsStaged now.nodes x ⊎ (now.nodes.at coordinator ≡ down))

  -- What a flow holds is right, and of the kind that it was asked.
  abbrev pub IsRight : Moment → Running → Asked → Holds → Type 0
  IsRight now r (to_write changes conditions) (writing h) = IsRightWrite now r changes conditions h
  IsRight now r (to_read fresh sets) (reading h) = IsRightRead now r fresh sets h
  IsRight now r (to_check fresh x u) (checking h) = IsRightCheck now r fresh x u h
  IsRight now r (to_watch c limit names) (watching h) = AreHeldHeads now r h
  IsRight now r (to_flush n) flushing = Unit {0}
  IsRight now r (to_learn s) (learning h) = AreHeldHeads now r h
  IsRight now r (to_resolve s) (resolving h) = IsRightResolve now h
  IsRight now r (to_raise x) (raising h) = IsRightRaise now r x h
  IsRight now r (to_collect s) (collecting h) = AreHeldHeads now r h
  IsRight now r asked holds = ⊥
