-- The limits of what a call carries, which its types keep.
use Rattle.std.specs.Prelude.{◌≤◌, ◌<◌, ◌+◌, ◌^◌, length}
use Rattle.tuples.specs.Limits.{max_batch}
use Rattle.records.specs.Replays.{greatest_number}
use Rattle.decisions.specs.Values.{IsIntent}
use Rattle.calls.specs.declared.call.NodeCall.{NodeCall}
use Rattle.calls.specs.declared.call.NodeCall.TheVariants.{Coordinator, Shard}
use Rattle.calls.specs.declared.call.CoordinatorCall.{CoordinatorCall}
use Rattle.calls.specs.declared.call.CoordinatorCall.TheVariants.{Decide, Raise}
use Rattle.calls.specs.declared.call.ShardCall.{ShardCall}
use Rattle.calls.specs.declared.call.ShardCall.TheVariants.{Learn, StagePrepare}

-- a batch has no more decisions than one may have, and their places are numbers; and so is a horizon
abbrev pub FitsCoordinator : CoordinatorCall → Type 0
FitsCoordinator (Raise place settled) = place < 2 ^ 64
FitsCoordinator call = Unit {0}

abbrev pub FitsShard : ShardCall → Type 0
FitsShard (Learn b) = (length b.writes ≤ max_batch) × (b.from + length b.writes ≤ greatest_number)
FitsShard call = Unit {0}

abbrev pub FitsItsTypes : NodeCall → Type 0
FitsItsTypes (Coordinator call) = FitsCoordinator call
FitsItsTypes (Shard s call) = FitsShard call

-- an intent that a call carries is one: of a whole write, under an id that can be given
abbrev pub IsWholeAtCoordinator : CoordinatorCall → Type 0
IsWholeAtCoordinator (Decide intent votes) = IsIntent intent.write
IsWholeAtCoordinator call = Unit {0}

abbrev pub IsWholeAtShard : ShardCall → Type 0
IsWholeAtShard (StagePrepare intent) = IsIntent intent.write
IsWholeAtShard call = Unit {0}

abbrev pub IsWhole : NodeCall → Type 0
IsWhole (Coordinator call) = IsWholeAtCoordinator call
IsWhole (Shard s call) = IsWholeAtShard call
