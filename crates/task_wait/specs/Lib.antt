pub mod Codes
pub mod Keys
pub mod Sets
pub mod Walks
