pub mod Offer
pub mod Offers
pub mod Chooses
pub mod Steps
pub mod Runs
pub mod Lines
pub mod ChoiceAnswers
pub mod Wanted
