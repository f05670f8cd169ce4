pub mod Allowed
pub mod Approvals
pub mod Ascending
pub mod Counted
pub mod Entries
pub mod FirmTrails
pub mod FoundTrails
pub mod Fronts
pub mod Journals
pub mod KeptRows
pub mod Neighbours
pub mod PutBehind
pub mod Refuted
pub mod Sound
pub mod Strays
pub mod Totals
mod Names
