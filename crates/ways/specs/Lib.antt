pub mod Clocks
pub mod Partners
pub mod Forth
pub mod Back
pub mod Starting
-- the demands of the steps in any order
pub mod Steps
