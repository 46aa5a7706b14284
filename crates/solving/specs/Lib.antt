pub mod Solved
-- which guards ask something of the starts, and the greatest solution with given moments
pub mod FirstRound
pub mod Latest
pub mod Solve
