pub mod Asks
pub mod HostRuns
pub mod Named
