pub mod GoingOn
pub mod Holding
