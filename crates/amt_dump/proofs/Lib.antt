pub mod Joining
pub mod Lawful
pub mod Noting
pub mod Numbered
pub mod Printing
pub mod Readings
