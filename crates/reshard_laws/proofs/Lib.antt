mod Words
pub mod Machines
pub mod Flows
pub mod Cares
pub mod Flushed
pub mod Sorted
pub mod Rows
pub mod Known
pub mod FirstShard
pub mod FirstLog
pub mod Meaning
pub mod Carried
pub mod Moments
mod SmallCarried
