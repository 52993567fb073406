pub mod Byte
pub mod State
pub mod Schedule
pub mod Cipher
pub mod Columns
