pub mod Handles
pub mod Counter
pub mod Counted
pub mod HeldItem
pub mod Slots
