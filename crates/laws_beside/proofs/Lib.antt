pub mod WideLemmas
pub mod DueLemmas
pub mod MarkedLemmas
pub mod RoundLemmas
pub mod OutcomeLemmas
pub mod CourseLemmas
pub mod CallLemmas
pub mod ShownLemmas
