pub mod MoveLemmas
pub mod SeenLemmas
pub mod RunLemmas
