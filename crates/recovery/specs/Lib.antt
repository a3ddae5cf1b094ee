pub mod Latest
pub mod Reading
pub mod Checkpoints
