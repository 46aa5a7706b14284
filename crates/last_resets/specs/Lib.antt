pub mod Since
pub mod Rounds
pub mod Distance
pub mod Carried
pub mod Walking
-- a last reset is one of the moments
pub mod Within
