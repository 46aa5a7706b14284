pub mod Samples
pub mod Follows
pub mod Checks
pub mod Lines
pub mod Walks
pub mod Begins
pub mod Cycles
pub mod Rounds
pub mod Evidence
pub mod Reads
pub mod Tight
pub mod PlanTest
pub mod LoopTest
-- guards between two clocks
pub mod TwoClocks
