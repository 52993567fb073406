pub mod Checksum
pub mod ChecksumLaws
pub mod Group
pub mod MapLaws
pub mod XorLaws
