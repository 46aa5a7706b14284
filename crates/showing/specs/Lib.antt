pub mod Shown
pub mod Rooms
pub mod Best
