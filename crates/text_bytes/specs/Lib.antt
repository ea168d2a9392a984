pub mod Outside
pub mod Pump
