pub mod CallPlaceLemmas
pub mod KnownLemmas
pub mod GroupLemmas
pub mod NameLemmas
pub mod ItemLemmas
