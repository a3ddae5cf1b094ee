pub mod Zookies
pub mod Bytes
