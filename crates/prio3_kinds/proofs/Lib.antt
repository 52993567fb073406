pub mod Itself
pub mod WholeAnswers
