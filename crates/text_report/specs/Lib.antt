pub mod Digits
pub mod Lines
pub mod Generated
pub mod Summary
