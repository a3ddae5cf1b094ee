mod Words
pub mod Lists
pub mod PrepareStep
pub mod Rows
pub mod CollectStep
pub mod LearnStep
pub mod Logs
pub mod CoordinatorStates
pub mod CoordinatorSteps
pub mod LessLeft
pub mod Locks
pub mod Without
pub mod WriteConditions
pub mod EmptyStore
pub mod ShardSteps
pub mod DecisionStep
pub mod Snapshots
pub mod PreparableConditions
pub mod BrokenConditions
pub mod WatchesJoin
pub mod MachineMoves
pub mod Selections
pub mod ReadRows
pub mod Walk
pub mod TupleLists
pub mod KeptVersions
pub mod ShardRows
mod SmallImages
mod SmallMeanings
mod SmallCheckpoints
