-- the rows that passes go over
pub mod Rows
-- a pass: forth, back, starts
pub mod Onward
pub mod Pass
-- pass after pass
pub mod Passes
pub mod Reached
pub mod Ending
