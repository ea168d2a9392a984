pub mod KeptNotices
pub mod Packed
pub mod Heard
pub mod Listeners
pub mod Counts
pub mod Groups
