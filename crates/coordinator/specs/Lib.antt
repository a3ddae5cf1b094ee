pub mod Keeping
pub mod Checkpoints
pub mod Lending
pub mod Ranges
pub mod Staged
