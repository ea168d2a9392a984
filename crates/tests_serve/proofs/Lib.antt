pub mod ScopeLemmas
pub mod StageLemmas
