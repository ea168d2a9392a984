pub mod Borrows
pub mod Codes
pub mod Lends
