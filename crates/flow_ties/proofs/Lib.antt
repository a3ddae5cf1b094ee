mod Words
pub mod CatchUps
pub mod Places
pub mod SeenReads
pub mod SeenChecks
pub mod SeenWrites
pub mod SeenWatches
pub mod SeenCares
pub mod RefusedPlaces
pub mod ToldCatchUps
pub mod ToldWrites
pub mod ToldReads
pub mod ToldChecks
pub mod ToldWatches
mod SmallAnswers
mod SmallWrites
