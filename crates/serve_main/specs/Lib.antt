pub mod Knows
pub mod Serves
pub mod Steps
pub mod Tool
