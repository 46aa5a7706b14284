pub mod Judged
pub mod Drafted
pub mod Going
pub mod Answered
