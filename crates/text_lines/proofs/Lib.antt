pub mod Numbers
pub mod TokenCounts
pub mod Each
pub mod Position
pub mod TokenLaws
pub mod LineForms
pub mod OpLaws
pub mod CallLaws
pub mod LineLaws
mod TenPowers
