pub mod Sessions
pub mod Bounds
pub mod Unsent
pub mod Machines
