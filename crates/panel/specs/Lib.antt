-- the numbers of each answer
pub mod Numbers
-- what the entries give and leave in the rooms
pub mod Told
