pub mod Agree
pub mod Kept
pub mod OfLists
pub mod Purging
