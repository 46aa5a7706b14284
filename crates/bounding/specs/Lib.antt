-- checks of a list of demands, part by part
pub mod Turns
-- the check of a key's demand, and those of one side of a step
pub mod Key
pub mod Side
-- the checks of the guards between two clocks
pub mod Lead
