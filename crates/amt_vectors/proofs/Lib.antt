pub mod Asking
pub mod BuiltIn
pub mod Failures
pub mod Fits
pub mod Lawful
pub mod Reports
mod Rows
pub mod Spaced
pub mod Unique
