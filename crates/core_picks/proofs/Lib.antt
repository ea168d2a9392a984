pub mod ArriveLemmas
pub mod CancellableLemmas
pub mod ComesLemmas
pub mod VersionLemmas
