-- two lists of steps, one after the other
pub mod Joining
-- effects in their places
pub mod Keeping
-- the steps of a table, and rounds of them
pub mod Round
pub mod Rounds
