pub mod CallFacts
pub mod CheckFacts
pub mod IsolationFacts
pub mod ReportFacts
pub mod RunFacts
pub mod ServingFacts
pub mod SheetFacts
pub mod StatementFacts
pub mod StreamFacts
pub mod SheetKept
mod Names
pub mod TrailFacts
