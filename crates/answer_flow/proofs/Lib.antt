pub mod EventLists
pub mod CatchUps
pub mod MergedRows
pub mod RowsGiven
pub mod MetLists
pub mod Walked
pub mod Waiting
