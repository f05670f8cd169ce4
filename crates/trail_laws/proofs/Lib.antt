pub mod Added
pub mod Growing
pub mod Steps
pub mod Signed
pub mod Approved
pub mod Told
pub mod AskedAgain
pub mod ShownAgain
pub mod Replayed
mod Names
