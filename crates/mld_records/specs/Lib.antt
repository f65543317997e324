pub mod Code
pub mod PseudoHeader
pub mod Query
pub mod Report
