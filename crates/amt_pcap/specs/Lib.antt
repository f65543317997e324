pub mod Capture
pub mod Udp
pub mod Texts
