pub mod OrderKeys
