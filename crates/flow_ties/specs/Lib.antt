pub mod Telling
pub mod Refusing
pub mod Reads
pub mod Checks
pub mod Writes
pub mod Watches
pub mod Cares
