-- the record as a row
pub mod Row
-- and rooms long enough to ask
pub mod Asked
