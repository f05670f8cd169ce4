pub mod Audited
pub mod Flaws
pub mod Trails
