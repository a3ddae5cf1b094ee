mod Once
pub mod Cases
