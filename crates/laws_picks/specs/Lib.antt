pub mod Arrival
pub mod CameOrder
pub mod Wants
