pub mod Bare
pub mod Books
pub mod Opening
pub mod Stops
pub mod Then
