pub mod Kinds
pub mod KindLaws
pub mod Values
pub mod ValueLaws
pub mod Counted
pub mod WholeNumbers
