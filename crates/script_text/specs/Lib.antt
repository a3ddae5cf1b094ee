pub mod Texts
pub mod Words
pub mod Shapes
pub mod Lines
pub mod Causes
pub mod PrintedTexts
