pub mod Host
pub mod Keeps
pub mod Relays
pub mod Says
