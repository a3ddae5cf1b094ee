pub mod Spelled
pub mod Uses
pub mod SimWalk
pub mod Entered
pub mod Asked
pub mod Lines
pub mod Told
pub mod Commands
