pub mod Counting
pub mod Looking
pub mod Taking
pub mod Upstream
