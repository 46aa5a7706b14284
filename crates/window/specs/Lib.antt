pub mod Window
pub mod Spans
pub mod Widest
