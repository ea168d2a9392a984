pub mod Moved
pub mod Picks
pub mod Puts
pub mod Waits
