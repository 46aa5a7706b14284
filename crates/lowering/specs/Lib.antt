-- bounds from above as a list, and checks that lower them
pub mod Lowered
pub mod Count
pub mod Bounded
-- checks lower, and keep what is true of all solutions
pub mod Outcome
pub mod Settling
-- bands of values that no vertex is in
pub mod Gap
-- the last moment of a vertex, or that there is none
pub mod Last
