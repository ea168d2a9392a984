pub mod AskLemmas
pub mod DriveLemmas
pub mod LendLemmas
pub mod PollLemmas
pub mod StateLemmas
