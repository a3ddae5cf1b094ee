-- Banks without room: if a flush, a checkpoint or an opening failed for lack of it, the node's device has the cause.
use Rattle.std.specs.Prelude.{◌≡◌, ℕ, List}
use Rattle.records.specs.declared.record.Record.{Record}
use Rattle.device.specs.Device.{State}
use Rattle.journal.specs.Ahead.{HasPointCause}
use Rattle.journal.specs.Records.{BankLacksRoom, HasCause, IsOpened, View}
use Rattle.laws.specs.Nodes.{NodeName}
use Rattle.turns.specs.Promises.{HasDeviceCause}
use Rattle.turns.specs.ShardOpeningLaws.{AreRevived}

-- Given what a device holds and whether it is honest, how often a stop may have come at it, what a stop since then may have left, and a store's id
-- and number of shards
module _ {D : Type 0} (state : D → State) (honest : D → Type 0) (moment : D → ℕ) (left_since : D → ℕ → List ℕ → Type 0) (store shards : ℕ) where
  -- a flush of the journal over the devices of a node failed
  abbrev pub FailedFlushesHaveCause : Type 0
  FailedFlushesHaveCause = (old new : NodeName → D × D) (n : NodeName) (was is : View D) → was.a ≡ (old n).0 → was.b ≡ (old n).1 → is.a ≡ (new n).0 → is.b ≡ (new n).1
      → honest was.a → honest was.b → HasCause state honest was is → HasDeviceCause state honest moment left_since store shards old new n

  -- a checkpoint of it failed
  abbrev pub FailedPointsHaveCause : Type 0
  FailedPointsHaveCause = (old new : NodeName → D × D) (n : NodeName) (was is : View D) → was.a ≡ (old n).0 → was.b ≡ (old n).1 → is.a ≡ (new n).0 → is.b ≡ (new n).1
      → honest was.a → honest was.b → honest is.a → honest is.b → HasPointCause state honest was is → HasDeviceCause state honest moment left_since store shards old new n

  -- an opening over the revived devices of a node found no room in the current bank for what it staged
  abbrev pub OpeningsWithoutRoomHaveCause : Type 0
  OpeningsWithoutRoomHaveCause = (old new : NodeName → D × D) (n : NodeName) (a b : D) (rs staged : List Record) (journal : View D) → AreRevived state honest moment left_since store shards old n a b
      → honest journal.a → honest journal.b → IsOpened state a b rs journal → BankLacksRoom state honest journal.a journal.b journal.end staged → HasDeviceCause state honest moment left_since store shards old new n
