pub mod Parts
pub mod Request
pub mod Whole
