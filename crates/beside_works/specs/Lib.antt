pub mod Shared
pub mod Views
pub mod Lines
pub mod Counts
pub mod Aborters
pub mod SpawnCalls
