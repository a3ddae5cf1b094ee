mod Words
pub mod ShardCalls
pub mod ShardReads
pub mod Revived
pub mod Openings
pub mod LogOpenings
pub mod CoordinatorCalls
pub mod CoordinatorTelling
pub mod LogJoins
pub mod Sound
pub mod Staging
pub mod LogStaging
pub mod Lendings
pub mod Counted
pub mod LogLendings
