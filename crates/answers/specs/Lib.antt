pub mod Four
pub mod Answered
