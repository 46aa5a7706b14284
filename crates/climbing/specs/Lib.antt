pub mod LeftPart
-- rounds and their effects
pub mod Climbing
-- the way up and the way down
pub mod Ways
