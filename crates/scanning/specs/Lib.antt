pub mod Progress
pub mod Compare
pub mod Noted
pub mod Safe
pub mod Follows
pub mod Tested
pub mod Found
pub mod Judged
