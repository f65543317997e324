pub mod Bad
mod Beginnings
pub mod Begun
mod Digits
pub mod Firsts
pub mod Forms
pub mod Glyphs
pub mod Numbers
mod OctetDigits
pub mod Peers
pub mod Pieces
mod Plain
pub mod Runs
pub mod Splitting
pub mod Taking
pub mod Verdicts
pub mod WordTables
pub mod Words
pub mod Writes
