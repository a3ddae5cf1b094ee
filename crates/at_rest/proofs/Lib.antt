pub mod Found
pub mod Resting
pub mod Moments
pub mod Stopped
mod SmallStopped
mod SmallDevices
