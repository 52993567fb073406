pub mod Halving
pub mod Reversed
pub mod Seams
pub mod Swaps
pub mod Backward
