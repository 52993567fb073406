pub mod Book
pub mod Catalog
pub mod Faults
pub mod Judge
pub mod Lane
pub mod Own
pub mod Ready
pub mod Sound
