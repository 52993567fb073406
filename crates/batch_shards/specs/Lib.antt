pub mod Bucket
pub mod Batches
pub mod Reports
