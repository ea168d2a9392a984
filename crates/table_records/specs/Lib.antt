pub mod LentRecords
pub mod Rows
