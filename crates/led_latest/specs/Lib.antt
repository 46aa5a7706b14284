-- the demands of all steps, with those between two clocks, step by step
pub mod Steps
-- the checks forth of a step
pub mod Ascent
