pub mod Faults
pub mod States
pub mod Parts
pub mod Decided
