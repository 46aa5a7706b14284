pub mod Longest
pub mod Encoded
pub mod Ending
pub mod Accepted
