pub mod Records
pub mod Reading
pub mod Listing
pub mod Laws
