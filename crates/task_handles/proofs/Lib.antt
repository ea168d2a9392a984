pub mod HandleLaws
pub mod SlotLemmas
pub mod ChainLemmas
pub mod StepLemmas
pub mod CountLemmas
