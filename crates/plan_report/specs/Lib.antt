pub mod Accepted
pub mod Found
