-- what the entry gives and leaves in the rooms
pub mod Told
