pub mod Beginnings
pub mod Cases
pub mod CopiesFit
pub mod HistoryGrows
pub mod Publishing
pub mod RuleKept
pub mod Vouching
