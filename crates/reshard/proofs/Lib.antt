pub mod Ranked
pub mod Merged
pub mod Picked
mod Owned
pub mod Caring
pub mod Down
pub mod Gathered
pub mod Filled
pub mod Founded
mod Up
pub mod Written
pub mod Turning
