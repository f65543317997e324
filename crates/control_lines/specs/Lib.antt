pub mod Answer
pub mod Asking
pub mod AskingGateways
pub mod Tally
