pub mod Code
pub mod Query
pub mod Report
