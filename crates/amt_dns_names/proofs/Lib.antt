pub mod Names
pub mod Places
pub mod Reverses
pub mod OneName
pub mod Steps
