pub mod Lines
pub mod Blocks
pub mod Outputs
