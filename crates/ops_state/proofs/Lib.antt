pub mod WakeLemmas
pub mod GiveLemmas
pub mod TakeLemmas
pub mod PlacedLemmas
pub mod KeepLemmas
pub mod OrderLemmas
