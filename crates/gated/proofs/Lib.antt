pub mod Spelled
pub mod Crash
pub mod Appends
pub mod Splitting
pub mod Opens
mod Calls
pub mod WrittenAhead
mod Cleared
mod SmallAhead
