pub mod Feeds
pub mod Gathering
pub mod Writing
