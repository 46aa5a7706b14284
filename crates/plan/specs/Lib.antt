-- what a plan is, and what it is asked of
pub mod Planned
pub mod Answer
pub mod Asked
-- the least solution above the start is the earliest run
pub mod Earliest
-- with the smallest starts it is the plan
pub mod Smallest
pub mod Same
pub mod LogIn
-- a negative cycle is a loop
pub mod Refuted
pub mod Decides
-- the rows of a table, what solving them has found, and the answer
pub mod Rows
pub mod Found
pub mod Admit
pub mod WholeTicks
