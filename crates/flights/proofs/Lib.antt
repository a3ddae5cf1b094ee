mod Words
pub mod Rows
pub mod Called
pub mod Launched
pub mod Landed
pub mod LogLaunched
pub mod LogLanded
pub mod LogCalled
