pub mod MetLemmas
