mod CallWords
pub mod Slots
pub mod Made
pub mod Standing
pub mod Turned
pub mod Named
pub mod Points
pub mod Flushed
pub mod Checkpointed
pub mod Told
pub mod Asked
pub mod Belongs
pub mod CaughtUp
pub mod AskedMore
pub mod RaiseTold
pub mod ResolveTold
pub mod ReadTold
pub mod Starts
pub mod FullStores
pub mod Cancels
pub mod Fails
pub mod SmallCalls
mod CareWords
pub mod Views
pub mod Flushes
pub mod Learns
pub mod Collects
pub mod Raises
pub mod Resolves
pub mod AnyCare
pub mod SmallCares
mod WriteWords
pub mod Going
pub mod Catching
pub mod Learning
pub mod Flushing
pub mod Voting
pub mod Outcome
pub mod Memory
pub mod Leaving
pub mod Beginning
pub mod Deciding
pub mod Preparing
pub mod AllWrites
pub mod WriteCancels
mod SmallWrites
mod AnswerWords
pub mod Watches
pub mod Leads
pub mod Places
pub mod Ways
pub mod ReadsTurn
pub mod ChecksTurn
pub mod SmallAnswers
