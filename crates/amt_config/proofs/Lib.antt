mod Exactness
mod Faults
mod GatewayLaws
mod Guarded
mod Items
mod JoinLaws
pub mod OpenedJoins
mod RelayLaws
mod Scanning
mod Values
