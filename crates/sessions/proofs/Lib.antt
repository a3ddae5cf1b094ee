pub mod Going
pub mod Bounded
pub mod Told
