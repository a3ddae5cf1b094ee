pub mod Sides
pub mod Reopening
pub mod CoordinatorSides
pub mod Joining
pub mod Lending
