pub mod Numbers
pub mod Places
pub mod Again
pub mod Each
