pub mod OnceOnly
pub mod Matching
pub mod Purging
pub mod Dismissed
pub mod ToldOwn
pub mod ReasonsTold
pub mod Counts
pub mod Statuses
