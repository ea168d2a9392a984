pub mod KeptPlaces
pub mod Once
pub mod PlaceWakes
