pub mod Answered
pub mod Canonical
pub mod InnerLength
pub mod Spelled
pub mod Unrefused
pub mod Written
