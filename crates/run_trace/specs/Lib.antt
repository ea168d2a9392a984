pub mod Opened
pub mod Labels
pub mod Traced
pub mod Rest
pub mod Marks
pub mod YieldBudget
