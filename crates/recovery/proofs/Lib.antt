pub mod LastChanges
pub mod Known
pub mod Checkpoints
