pub mod FreshLemmas
pub mod HostLemmas
pub mod SpawnLemmas
mod CallLemmas
mod SlotLemmas
pub mod InstanceLemmas
