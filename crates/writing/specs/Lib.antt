pub mod Tally
pub mod Passed
pub mod Ends
pub mod Steps
