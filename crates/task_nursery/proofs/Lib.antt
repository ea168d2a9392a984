pub mod GroupLemmas
pub mod KeptLemmas
pub mod NumberLemmas
pub mod StartLemmas
pub mod TallyLemmas
pub mod TurnLemmas
pub mod ScopeLemmas
