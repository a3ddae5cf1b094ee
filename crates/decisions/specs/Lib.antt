pub mod Values
pub mod Held
pub mod Standing
pub mod Coordinators
pub mod Checkpoints
pub mod Flows
pub mod Walks
pub mod Merging
