pub mod Addresses
pub mod Calls
pub mod Events
pub mod Failures
pub mod Fields
pub mod Heard
pub mod Judging
pub mod Lawful
mod Rows
pub mod Running
pub mod Runs
pub mod Says
pub mod SocketCalls
pub mod Settled
pub mod Unique
