pub mod Cmac
pub mod Stream
pub mod Drawn
pub mod Fault
