pub mod Own
pub mod Tells
