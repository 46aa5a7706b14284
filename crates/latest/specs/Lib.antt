-- the demands of all steps, step by step
pub mod Steps
-- the checks back and forth over the steps
pub mod Descent
pub mod Ascending
pub mod Ascent
-- back step by step, and forth at once
pub mod Glide
-- until nothing is lowered
pub mod Settle
