pub mod Asks
pub mod Fields
