pub mod Faults
pub mod Journal
pub mod Laws
pub mod Log
pub mod Reader
pub mod Reading
pub mod Retry
pub mod RetryLaws
