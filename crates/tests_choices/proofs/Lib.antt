mod GoingLemmas
mod NewLemmas
