pub mod Openings
pub mod OneSchema
pub mod Moves
pub mod Stops
pub mod Scripts
pub mod Written
mod Names
