pub mod AskFacts
pub mod HeardFacts
pub mod RouteFacts
pub mod BodyFacts
pub mod Literals
pub mod PathFacts
pub mod Least
pub mod TableFacts
mod Names
