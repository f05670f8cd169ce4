pub mod Alike
pub mod Found
pub mod Lookups
pub mod Marked
pub mod Members
pub mod Parting
pub mod Passing
pub mod RecordsRead
pub mod RowsRead
pub mod RowsWritten
pub mod Shown
pub mod WrittenDays
mod Names
