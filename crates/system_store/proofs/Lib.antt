pub mod Openings
pub mod Runs
pub mod SentAgain
