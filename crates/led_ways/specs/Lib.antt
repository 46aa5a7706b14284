-- back over all steps, with the guards between two clocks
pub mod Back
-- a way forth that returns
pub mod Home
