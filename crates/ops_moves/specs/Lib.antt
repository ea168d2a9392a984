pub mod Stops
pub mod Idle
pub mod Gone
pub mod Wakes
