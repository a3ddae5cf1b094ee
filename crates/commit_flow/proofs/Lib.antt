pub mod Fitting
mod Ballots
