pub mod TellNothing
pub mod Approvers
pub mod Dossiers
pub mod SignedRuns
pub mod ReplayedRuns
pub mod AuditedRuns
pub mod KeptTrails
