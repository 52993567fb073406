pub mod Shape
pub mod Kinds
pub mod StaysValid
pub mod LinearityLaws
pub mod EncodingLaws
pub mod CircuitLaws
