pub mod TextFacts
pub mod Cards
mod Names
