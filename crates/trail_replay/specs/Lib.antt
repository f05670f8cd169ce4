pub mod Follows
pub mod Telling
