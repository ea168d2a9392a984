pub mod Appending
pub mod Ending
pub mod Marking
pub mod YieldBudgetLemmas
