-- checks of the demands of all steps, step by step
pub mod Homing
