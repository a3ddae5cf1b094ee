pub mod Examples
pub mod Owners
