pub mod Fresh
pub mod History
pub mod Moments
pub mod States
