pub mod Found
pub mod Asking
pub mod Settling
pub mod Fitting
pub mod Ending
pub mod Naming
