pub mod Heads
pub mod Fields
pub mod FieldPlaces
pub mod Messages
pub mod Inputs
pub mod Sources
