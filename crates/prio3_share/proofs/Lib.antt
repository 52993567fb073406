pub mod Fields
pub mod Elements
pub mod Lengths
pub mod ReadHalves
pub mod Shared
pub mod Added
pub mod Sharded
