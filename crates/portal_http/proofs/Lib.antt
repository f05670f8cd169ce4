pub mod Fronts
pub mod Steps
pub mod Serve
pub mod HeadTexts
pub use Rattle.trust_desk.proofs.Calls
pub mod InTurn
mod Names
