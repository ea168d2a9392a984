pub mod UntouchedLemmas
pub mod MoveLemmas
pub mod FootLemmas
pub mod StopLemmas
pub mod PublishLemmas
pub mod TellLemmas
pub mod EndLemmas
pub mod FirstLemmas
