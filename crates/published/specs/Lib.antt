pub mod Known
pub mod OneList
pub mod Tells
