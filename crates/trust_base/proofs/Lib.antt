pub mod NameFacts
pub mod LineFacts
pub use Rattle.trust_values.proofs.CivilDayFacts
pub use Rattle.trust_values.proofs.DayFacts
pub use Rattle.trust_values.proofs.EntryFacts
pub use Rattle.trust_values.proofs.ReadFacts
mod Names
