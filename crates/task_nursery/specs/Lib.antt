pub mod Children
pub mod Later
pub mod Numbers
pub mod Scope
