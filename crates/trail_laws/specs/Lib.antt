pub mod Dossier
pub mod Added
pub mod Signed
pub mod Replayed
