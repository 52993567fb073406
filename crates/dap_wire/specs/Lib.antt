pub mod Calls
pub mod Fated
pub mod KeptLaws
pub mod Link
pub mod Meet
pub mod Ring
pub mod Uploads
