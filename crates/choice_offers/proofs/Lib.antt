mod BlockedLemmas
mod CancelLemmas
mod CodeLemmas
mod CountLemmas
mod FarLemmas
mod HandleLemmas
mod JoinedLemmas
mod ListingLemmas
mod NamedLemmas
mod SortLemmas
mod TestLemmas
mod TimeLemmas
mod WantedLemmas
pub mod HeldLemmas
pub mod OfferHeld
pub mod OrderLemmas
pub mod PoppedLemmas
pub mod TimesLemmas
