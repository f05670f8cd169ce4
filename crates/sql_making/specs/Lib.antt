pub mod Books
pub mod Scripts
pub mod Text
pub mod Then
pub mod Bare
