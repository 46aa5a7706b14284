pub mod Reports
pub mod Unique
pub mod Writes
pub mod Whole
