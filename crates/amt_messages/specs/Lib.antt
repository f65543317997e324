pub mod Messages
pub mod StatedLength
pub mod Layout
pub mod Refusal
