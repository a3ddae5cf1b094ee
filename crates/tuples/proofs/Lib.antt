pub mod Lists
pub mod Options
pub mod OnceEach
pub mod Same
pub mod Ordered
mod Ascending
mod Worded
pub mod Sums
pub mod Cuts
pub mod Spelling
pub mod Selecting
pub mod Once
pub mod Kept
pub mod Named
pub mod BitsOf
pub mod Sets
pub mod Examples
mod Members
pub mod Walked
pub mod Reaching
pub mod InOrder
pub mod Unpacked
