-- what is believed: the answer to the bytes of a table with stretches; such a table as it is written; and what it means
pub mod Reading
pub mod Tree
pub mod Listing
-- how the answer goes on, and what it tells of a record; the first record of a stretch
pub mod Laws
pub mod Judged
pub mod First
-- reading part by part: the records of a step, items and stretches, records outside them, and the whole table
pub mod Parts
pub mod Steps
pub mod Items
pub mod Outside
pub mod Whole
-- exactly the bytes of sound items, within the limits when written out, are accepted
pub mod Rest
pub mod Accepted
-- what they mean is a table without stretches; such tables are read as by a reader that knows none
pub mod Plain
