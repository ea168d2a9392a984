pub mod Index
pub mod Rows
pub mod Counts
pub mod Members
pub mod Walks
pub mod GivenPlaces
pub mod OrderKeys
