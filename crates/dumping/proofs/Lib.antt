mod OneShardMore
mod Machines
mod Flows
mod Covering
mod Listing
mod OneMore
mod Looks
pub mod Snapshots
