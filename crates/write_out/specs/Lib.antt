-- what is written
pub mod Plain
-- a stretch, so often as it is repeated
pub mod Copies
-- items that are due, case by case, and the loop that writes them
pub mod Due
pub mod Cases
pub mod Going
-- the whole table
pub mod Out
