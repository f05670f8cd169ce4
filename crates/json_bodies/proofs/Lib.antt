pub mod TextFacts
pub mod ObjectFacts
pub mod ReadBack
pub mod BodiesRead
pub mod EntryFacts
pub mod Waiting
pub mod Own
pub mod OneRead
pub mod Tokens
pub mod Trial
pub mod Decided
mod Names
