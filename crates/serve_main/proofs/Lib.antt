mod StepLemmas
mod ServeLemmas
pub mod TakenLemmas
mod ToolLemmas
mod SaysLemmas
