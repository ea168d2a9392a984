pub mod AskLemmas
pub mod SpawnLemmas
mod OpenLemmas
mod RunLemmas
