pub mod Short
mod Among
mod Within
mod Rooms
pub mod RunLemmas
pub mod Answering
mod Carried
mod Done
mod Whole
mod Empty
pub mod Living
mod SameStore
mod Staying
mod Written
pub mod RefusedWrites
mod SmallRefused
