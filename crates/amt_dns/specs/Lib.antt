pub mod Answer
pub mod Fault
pub mod Choice
pub mod Texts
