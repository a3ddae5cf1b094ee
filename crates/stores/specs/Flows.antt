-- What flows are asked, and what a flow holds between two of its calls.
use Rattle.std.specs.Prelude.{◌≤◌, ◌<◌, ℕ, List, [], ◌∷◌, length, Option, None}
use Rattle.tuples.specs.declared.change.Change.{Change}
use Rattle.tuples.specs.declared.change.Condition.{Condition}
use Rattle.tuples.specs.declared.entry.WriteId.{WriteId}
use Rattle.tuples.specs.declared.object.Userset.{Userset}
use Rattle.tuples.specs.declared.tupleset.Tupleset.{Tupleset}
use Rattle.tuples.specs.declared.user.User.{User}
use Rattle.tuples.specs.Changes.{IsWrite}
use Rattle.records.specs.Replays.{greatest_number}
pub use Rattle.tuples.specs.Limits.{max_asked, max_walked, max_watched}
pub use Rattle.decisions.specs.Flows.{Freshness, latest, at_least, exact, HeldTicket, HeldVote, Way, onward, outward, WriteHolds, ReadHolds, CheckHolds, HeadsHeld, Resolved, committed, aborted, undecided, ResolveHolds, RaiseHolds, nothing_begun, no_heads, nothing_read, nothing_raised}
use Rattle.laws.specs.Nodes.{IsThere, NodeName}

-- What a flow is asked: to write; to read, to check, to watch from a place on, this many places, in these namespaces; or to care for
-- the nodes: flush one, let a shard learn, resolve what it has in doubt, raise the horizon to a place, collect a shard.
pub data Asked : Type 0 where
  to_write : List Change → List Condition → Asked
  to_read : Freshness → List Tupleset → Asked
  to_check : Freshness → Userset → User → Asked
  to_watch : ℕ → ℕ → List (List ℕ) → Asked
  to_flush : NodeName → Asked
  to_learn : ℕ → Asked
  to_resolve : ℕ → Asked
  to_raise : ℕ → Asked
  to_collect : ℕ → Asked

-- a place that a zookie names fits into it
abbrev pub IsFreshness : Freshness → Type 0
IsFreshness latest = Unit {0}
IsFreshness (at_least place) = place ≤ greatest_number
IsFreshness (exact place) = place ≤ greatest_number

-- What is asked is whole and in range, as requests are once they were read, and of a node that is there.
abbrev pub IsAsked : ℕ → Asked → Type 0
IsAsked shards (to_write changes conditions) = IsWrite changes conditions
IsAsked shards (to_read fresh sets) = IsFreshness fresh × (1 ≤ length sets) × (length sets ≤ max_asked)
IsAsked shards (to_check fresh x u) = IsFreshness fresh
IsAsked shards (to_watch c limit names) = (c ≤ greatest_number) × (1 ≤ limit) × (limit ≤ max_watched) × (1 ≤ length names) × (length names ≤ max_asked)
IsAsked shards (to_flush n) = IsThere shards n
IsAsked shards (to_learn s) = s < shards
IsAsked shards (to_resolve s) = s < shards
IsAsked shards (to_raise x) = x ≤ greatest_number
IsAsked shards (to_collect s) = s < shards

-- the place to which a flow is asked to raise the horizon
abbrev pub named_by : Asked → List ℕ
named_by (to_raise x) = x ∷ []
named_by asked = []

-- what a flow holds
pub data Holds : Type 0 where
  writing : WriteHolds → Holds
  reading : ReadHolds → Holds
  checking : CheckHolds → Holds
  watching : HeadsHeld → Holds
  flushing : Holds
  learning : HeadsHeld → Holds
  resolving : ResolveHolds → Holds
  raising : RaiseHolds → Holds
  collecting : HeadsHeld → Holds

-- what a flow holds before its first call
abbrev pub nothing_held : Asked → Holds
nothing_held (to_write changes conditions) = writing nothing_begun
nothing_held (to_read fresh sets) = reading nothing_read
nothing_held (to_check fresh x u) = checking (record { heads = None; place = None; walked = []; waiting = x ∷ []; batch = None })
nothing_held (to_watch c limit names) = watching no_heads
nothing_held (to_flush n) = flushing
nothing_held (to_learn s) = learning no_heads
nothing_held (to_resolve s) = resolving (record { found = []; verdict = None; batch = None })
nothing_held (to_raise x) = raising nothing_raised
nothing_held (to_collect s) = collecting no_heads

-- the id of the write of a flow
abbrev pub id_of : Holds → Option WriteId
id_of (writing h) = h.id
id_of holds = None

-- the place that a read or a check has found
abbrev pub place_of : Holds → Option ℕ
place_of (reading h) = h.place
place_of (checking h) = h.place
place_of holds = None
