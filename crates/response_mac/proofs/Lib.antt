pub mod Differences
pub mod Goodness
pub mod Kept
