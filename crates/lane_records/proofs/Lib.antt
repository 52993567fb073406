pub mod Appends
pub mod Entries
pub mod Loop
pub mod Ranges
