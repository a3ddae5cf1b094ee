mod Preparing
mod Learning
pub mod Belonging
pub mod Reading
