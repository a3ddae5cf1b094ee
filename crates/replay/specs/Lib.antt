pub mod Rules
pub mod Alike
pub mod Reading
pub mod Checkpoints
