pub mod Shards
pub mod Keeping
pub mod Own
pub mod Calls
pub mod Lending
pub mod Checkpoints
