pub mod Chosen
pub mod ChooseLines
pub mod Reading
pub mod Stepping
pub mod Tool
