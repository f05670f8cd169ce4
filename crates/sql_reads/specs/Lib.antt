pub mod Parts
pub mod Causes
pub mod Fed
pub mod Shown
pub mod Unread
