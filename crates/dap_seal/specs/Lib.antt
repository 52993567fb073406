pub mod Answered
pub mod Halves
pub mod Reports
pub mod Rules
pub mod SealLaws
pub mod Sealed
pub mod Steps
pub mod Turns
