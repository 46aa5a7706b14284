pub mod Encoded
pub mod Meaning
