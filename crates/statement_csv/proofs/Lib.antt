pub mod FieldFacts
pub mod HeaderFacts
pub mod GivenFacts
pub mod ItemFacts
pub mod LimitFacts
pub mod NamedFacts
pub mod ReadingFacts
mod Names
