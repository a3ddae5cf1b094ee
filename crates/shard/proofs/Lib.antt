mod Kept
mod Checkpointed
pub mod Waiting
pub mod Tested
mod Prepared
mod Ids
mod Undone
pub mod Given
pub mod Parts
mod Openings
pub mod Told
pub mod Landed
