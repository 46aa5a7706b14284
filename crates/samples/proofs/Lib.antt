pub mod Counted
pub mod Plans
pub mod Claim
pub mod TwoClocksFollow
