pub mod Arrived
pub mod Chains
pub mod Rules
