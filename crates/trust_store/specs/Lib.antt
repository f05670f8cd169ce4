pub mod Books
pub mod Calls
pub mod Crashes
pub mod Kept
pub mod MatterActs
pub mod Named
pub mod Seen
