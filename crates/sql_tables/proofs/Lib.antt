pub mod Casts
pub mod Together
pub mod Selects
pub mod Calls
pub mod Means
pub mod Kept
pub mod Writes
pub mod CountedUp
pub mod KindLemmas
pub mod Others
pub mod Tables
pub mod ReadLemmas
pub mod ScriptLemmas
mod Names
