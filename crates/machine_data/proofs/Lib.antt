pub mod MapLemmas
pub mod SizeLemmas
pub mod SumLemmas
pub mod CommuteLemmas
