mod Digits
mod Lines
mod Pages
pub mod Printed
pub mod Tree
pub mod PlacedLemmas
pub mod Spelled
pub mod Sizes
