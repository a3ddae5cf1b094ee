pub mod Joined
pub mod Left
pub mod Staged
pub mod Picked
pub mod Flushes
mod Found
pub mod Failures
mod Fitting
mod Summaries
mod Measured
pub mod Checkpoints
pub mod Replaced
pub mod Short
pub mod Calls
pub mod Beginnings
