pub mod Came
pub mod CameLaws
pub mod Counts
pub mod CountsLaws
pub mod Pages
pub mod Part
