pub mod Vector
pub mod Kept
pub mod VectorLaws
