pub mod Values
pub mod Inverting
pub mod Spelled
pub mod Causing
mod Alike
mod Once
mod Sound
mod Formed
pub mod Escapes
pub mod Growing
pub mod Listed
pub mod Wholes
