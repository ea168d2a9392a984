pub mod Numbered
pub mod Searched
pub mod Searching
pub mod Ways
