pub mod Name
pub mod NameAt
pub mod Reading
pub mod Query
pub mod Reverse
