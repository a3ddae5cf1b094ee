pub mod CommandLine
pub mod Commands
pub mod Options
pub mod Status
