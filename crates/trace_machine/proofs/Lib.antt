pub mod MachineLemmas
pub mod OnlyLemmas
pub mod OpenLemmas
pub mod SpotLemmas
pub mod StepLemmas
pub mod WantLemmas
