pub mod ReleaseLemmas
pub mod ThreadLemmas
pub mod HiddenRules
pub mod HiddenLemmas
pub mod ActLemmas
pub mod TwinLemmas
