pub mod Changes
pub mod Filter
pub mod Merging
pub mod Record
