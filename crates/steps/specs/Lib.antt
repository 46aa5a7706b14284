-- constraints put into a matrix, one after the other
pub mod Puts
-- those of a step, and its effect
pub mod Raw
pub mod Fetch
