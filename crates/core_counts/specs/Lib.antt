pub mod Entries
pub mod Ones
pub mod Limits
pub mod Lends
