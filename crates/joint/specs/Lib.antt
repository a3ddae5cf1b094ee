pub mod Examples
pub mod Held
pub mod Views
pub mod Whole
