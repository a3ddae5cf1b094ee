pub mod Turning
pub mod Answering
pub mod Writing
pub mod Opening
pub mod Looking
pub mod AtRest
