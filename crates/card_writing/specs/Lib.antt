pub mod Lines
pub mod Drafted
