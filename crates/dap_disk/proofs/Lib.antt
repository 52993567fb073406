pub mod Calls
pub mod Plans
pub mod Pushes
pub mod Rules
