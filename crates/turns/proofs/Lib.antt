mod Words
pub mod StopInside
pub mod CoordinatorOpening
pub mod RefusedOpening
pub mod DecisionTurn
pub mod ClosedStore
pub mod SmallRuns
mod SmallChecks
pub mod RunChain
pub mod RunNames
mod WrongRuns
mod WrongStores
mod NarrowCauses
pub mod ClosedStoreRests
pub mod StoppedStores
pub mod RunLogs
pub mod Chains
pub mod DecideSeam
pub mod BeginSeam
pub mod AbortSeam
pub mod CoordinatorCalls
pub mod CoordinatorTurns
pub mod DecideCauses
pub mod RaiseSeam
pub mod CoordinatorOpeningSeam
pub mod FlushTurn
pub mod FailedFlushTurn
pub mod ShardFlushTurn
pub mod AnswerTurns
pub mod SeesOn
pub mod QuietTurns
pub mod ShardSeam
pub mod ShardPrepareSeam
pub mod ShardLearnSeam
pub mod ShardReadSeam
pub mod ShardOpeningSeam
pub mod ShardCheckSeam
pub mod ShardFailedSeam
pub mod ShardLearnAnswer
mod SmallTurns
pub mod Rooms
