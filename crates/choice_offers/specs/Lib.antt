pub mod Choices
pub mod Listings
pub mod Spots
pub mod Takes
pub mod Times
pub mod Held
