pub mod ClientLasts
pub mod ClosedBy
pub mod DoubleRows
pub mod EntryDays
pub mod Lasts
pub mod LatestClosing
pub mod OneMatter
pub mod OpenedAfter
pub mod Shares
pub mod Sizes
pub mod Sorted
pub mod Tidy
mod Names
