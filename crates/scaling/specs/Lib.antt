-- the row of scaled constants
pub mod Scaled
-- a table with the constants of a row
pub mod Constants
-- the row, filled guard by guard
pub mod Filling
