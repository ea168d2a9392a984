pub mod Course
pub mod KeptWorks
pub mod Joined
pub mod Own
