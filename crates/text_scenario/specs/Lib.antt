pub mod Spelling
pub mod Placement
pub mod MainLines
pub mod Grammar
pub mod State
pub mod AnswersLine
