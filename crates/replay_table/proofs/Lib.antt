pub mod Keys
pub mod Removals
