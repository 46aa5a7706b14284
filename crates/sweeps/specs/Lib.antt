-- the demands in the order of a pass, from rows of numbers
pub mod Order
pub mod Ends
-- the rows of a table stand for its demands
pub mod Covered
pub mod Number
-- the same in parts of a tick
pub mod Scaled
