pub mod Decides
pub mod Lands
pub mod Learns
pub mod Opens
pub mod BegunGoods
pub mod Following
pub mod OwnedLists
pub mod Owners
pub mod Prepares
pub mod Unmade
mod SmallLists
pub mod SmallOwners
