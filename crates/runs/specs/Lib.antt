-- definitions
pub mod Run
pub mod Demand
pub mod Loop
-- runs step by step
pub mod Tools
pub mod Steps
pub mod Replay
pub mod Readings
pub mod RunSteps
-- rounds, order, starts
pub mod Copies
pub mod RunLaws
pub mod Allowed
pub mod ExistsSteps
-- a run is a solution of its demands
pub mod Satisfies
pub mod RowSteps
pub mod Rows
-- a loop refutes every run, and a negative cycle is a loop
pub mod Parts
pub mod Refutes
pub mod Tighten
pub mod Cycle
-- the demand order, for programs that list or use it
pub mod DemandOrder
pub mod DemandRange
-- starts that no guard tells apart, and how long they need be
pub mod Twin
-- the variants of the start
pub mod Start
-- at least two moments in a loop, where every guard is of one clock
pub mod TwoMoments
-- whole ticks
pub mod Whole
-- readings from which every number of rounds runs
pub mod Lasting
-- both ends of a run
pub mod Ends
