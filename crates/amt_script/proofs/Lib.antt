pub mod Failures
pub mod Heard
pub mod Judging
pub mod Lawful
pub mod LimitLines
pub mod OtherLines
pub mod Printed
pub mod RowLines
mod Rows
pub mod Running
pub mod Runs
pub mod Says
pub mod SetLines
pub mod Settlings
pub mod Unique
