pub mod RestingLaws
pub mod Stopped
