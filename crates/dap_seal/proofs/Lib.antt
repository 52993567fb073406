pub mod Covers
pub mod FirstRule
pub mod Halves
pub mod Honest
pub mod Turns
