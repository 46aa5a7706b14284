pub mod Sides
pub mod Covers
pub mod Tight
pub mod Keys
pub mod Filled
pub mod Scaled
