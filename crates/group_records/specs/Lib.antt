pub mod Family
pub mod Code
pub mod CarriedRecord
pub mod Report
pub mod Reading
pub mod Query
pub mod Written
