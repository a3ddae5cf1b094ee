pub mod Encodings
pub mod Pairs
