pub mod WholeFacts
pub mod AmountFacts
pub mod ReadFacts
pub mod EntryFacts
pub mod DayFacts
pub mod SignedFacts
pub mod CivilDayFacts
pub mod RetentionFacts
mod Names
