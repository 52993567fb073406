pub mod Answered
pub mod Direct
pub mod Earlier
pub mod Honest
pub mod Offered
pub mod Sums
pub mod Told
