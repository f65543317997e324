pub mod Choices
pub mod Unique
