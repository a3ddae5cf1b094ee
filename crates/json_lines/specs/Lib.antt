pub mod Shapes
pub mod Lines
pub mod Causes
pub mod Spelling
pub mod Laws
pub mod Texts
pub mod Grown
pub mod Listing
