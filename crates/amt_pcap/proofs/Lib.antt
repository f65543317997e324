mod Addresses
mod DumpLines
mod Loops
mod RelayLines
pub mod Unique
