pub mod Step
pub mod Refusal
pub mod Steps
