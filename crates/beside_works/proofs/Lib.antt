pub mod SharedLemmas
pub mod CountLemmas
pub mod RunLemmas
pub mod NewLemmas
pub mod MeetLemmas
pub mod LineLemmas
