pub mod Listed
pub mod Accepted
pub mod Answer
pub mod Told
