pub mod ReadCalls
pub mod FlawsFound
pub mod Counting
pub mod DayReports
mod ReconciliationAnswers
mod ReportTexts
mod PacketTold
mod FirmTrails
mod Names
