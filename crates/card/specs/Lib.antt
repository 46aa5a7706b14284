-- what the entries give and leave in the rooms
pub mod Told
