-- a pivot, row by row in place
pub mod Rows
-- pivots in turn, and what they tell
pub mod Closing
