pub mod Again
pub mod Counted
pub mod Maps
pub mod Parts
