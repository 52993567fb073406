pub mod Devices
pub mod FateList
pub mod Fates
pub mod Filed
pub mod Plan
