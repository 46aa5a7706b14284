-- the effect of a list of steps
pub mod Describes
-- of one step
pub mod Single
pub mod Tightened
pub mod Demands
pub mod StepDemands
-- of two lists of steps, one after the other
pub mod Outer
pub mod Join
pub mod Effects
-- without the clocks that a table does not have
pub mod Sides
pub mod Whole
pub mod WholeStep
pub mod WholeJoin
-- its entries are in range
pub mod Sums
pub mod Slide
pub mod Range
-- what a program that makes effects says of steps
pub mod Tells
pub mod Joining
-- an effect in a list of codes
pub mod Stored
-- rounds: runs from an allowed start, and where their number does not matter
pub mod Begins
pub mod Settle
pub mod Rank
pub mod Count
-- the count, and that runs exist
pub mod Known
pub mod Starts
-- starts from which every number of rounds runs
pub mod Steady
pub mod WholeLeft
-- the bounds that every run keeps
pub mod Tightest
