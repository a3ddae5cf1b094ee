pub mod Held
mod Counting
mod Keeping
mod Seats
mod SmallStates
