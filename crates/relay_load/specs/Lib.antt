pub mod Counting
pub mod Counts
pub mod Generator
pub mod Packets
pub mod Reports
pub mod Script
pub mod Texts
pub mod Updates
