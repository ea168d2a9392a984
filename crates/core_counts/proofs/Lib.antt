pub mod RoomLemmas
pub mod TrapLemmas
pub mod ResultLemmas
pub mod ScanLemmas
pub mod MemberLemmas
pub mod LimitLemmas
pub mod EntryLemmas
pub mod EndedLemmas
