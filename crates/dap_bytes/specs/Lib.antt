pub mod Causes
pub mod Cursor
pub mod Name
pub mod NameLaws
pub mod Shown
pub mod SpanLaws
pub mod Spans
