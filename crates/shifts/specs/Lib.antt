-- what is promised
pub mod Shift
pub mod Sound
pub mod Handed
-- what grows and what is held (that it holds stands in proofs/)
pub mod Grown
pub mod Held
