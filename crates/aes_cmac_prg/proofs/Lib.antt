mod Blocks
pub mod Drawing
pub mod Entries
