pub mod Runner
pub mod Continues
pub mod InPlace
pub mod Fits
pub mod Polls
pub mod Did
pub mod Makes
pub mod Rules
