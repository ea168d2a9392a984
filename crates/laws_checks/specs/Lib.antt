pub mod Release
pub mod Twins
