pub mod Applied
pub mod Changes
pub mod TotalsAfter
pub mod NamedEntries
pub mod Parts
pub mod Purging
pub mod Audit
