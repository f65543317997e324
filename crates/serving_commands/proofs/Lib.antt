pub mod Deciding
mod Faults
mod GatewayRuns
pub mod Lending
mod RelayPlanning
mod RelayRuns
