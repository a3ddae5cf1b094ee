mod Words
mod Serving
mod Served
mod Passes
mod FreshPlaces
mod ReadTurns
mod CheckTurns
mod HastenedChecks
mod HastenedReads
mod WatchTurns
mod CareTurns
mod RefusedCalls
mod WriteTurns
pub mod NewDevices
pub mod Crosses
mod Looked
pub mod Shared
