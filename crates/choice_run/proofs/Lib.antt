mod AtLemmas
pub mod ClosedLemmas
mod HadLemmas
mod LoopLemmas
mod NumberLemmas
mod PartLemmas
mod RunLemmas
mod StepLemmas
mod ToolLemmas
mod WordLemmas
