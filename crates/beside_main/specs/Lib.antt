pub mod Calls
pub mod Cells
pub mod Course
pub mod Headline
pub mod Report
pub mod Round
pub mod Tool
pub mod Same
