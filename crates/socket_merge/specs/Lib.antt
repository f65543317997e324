pub mod Changes
pub mod FullReport
pub mod History
pub mod Interface
pub mod Kept
pub mod Refusal
pub mod Sockets
