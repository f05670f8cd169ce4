pub mod Reports
pub mod ReportTexts
pub mod DayReports
pub mod Kept
pub mod Checking
pub mod Trails
pub mod FirmTrails
pub mod Month
