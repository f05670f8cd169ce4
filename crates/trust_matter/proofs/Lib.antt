pub mod Decided
pub mod Late
pub mod Parts
pub mod Table
pub mod StepForms
pub mod DepositSteps
pub mod PaymentSteps
pub mod ClaimSteps
pub mod LineSteps
pub mod LineDecided
pub mod Steps
pub use Rattle.matter_rows.proofs.Days
pub use Rattle.matter_rows.proofs.Entries
pub use Rattle.matter_rows.proofs.Sums
mod Names
