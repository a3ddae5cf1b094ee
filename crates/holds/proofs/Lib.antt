pub mod Doubts
pub mod Apart
pub mod Ids
pub mod Put
pub mod Named
mod ById
