pub mod Limits
pub mod Texts
pub mod Retention
pub mod Periods
