pub mod Cared
pub mod Carried
pub mod Moments
