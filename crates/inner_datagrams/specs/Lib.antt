pub mod Checksum
pub mod Fault
pub mod Head
pub mod Header
pub mod Header6
pub mod Inner
pub mod Reading
pub mod Written
