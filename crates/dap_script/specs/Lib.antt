pub mod Fields
pub mod Line
pub mod OptionLaws
pub mod Reads
pub mod Script
pub mod Spelling
pub mod Words
