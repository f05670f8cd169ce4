pub mod Follows
pub mod Telling
pub mod Making
pub mod Replaying
pub mod Signing
