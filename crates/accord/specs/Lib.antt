pub mod Agreeing
pub mod Coordinators
pub mod Following
pub mod OwnedLists
pub mod Owning
pub mod Shards
