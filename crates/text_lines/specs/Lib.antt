pub mod Keyword
pub mod Tokens
pub mod LineTokens
pub mod Fits
pub mod Line
pub mod Gives
