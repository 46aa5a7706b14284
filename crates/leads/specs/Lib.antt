-- a guard as a number
pub mod Codes
-- the row of the leads' numbers, and the leads of a step that it tells
pub mod Leads
-- the row, filled guard by guard
pub mod Filling
