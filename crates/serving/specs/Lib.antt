pub mod Ending
pub mod Protocols
pub mod Slowness
pub mod Working
