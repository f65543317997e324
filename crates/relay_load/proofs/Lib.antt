pub mod Draws
pub mod Items
pub mod Outcomes
pub mod ReportLengths
pub mod ReportLists
pub mod Runs
