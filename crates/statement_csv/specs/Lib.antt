pub mod Headers
pub mod Items
pub mod Limits
pub mod Lines
pub mod Reading
pub mod References
