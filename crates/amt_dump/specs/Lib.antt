pub mod Dump
pub mod Lines
pub mod Queries
pub mod Texts
