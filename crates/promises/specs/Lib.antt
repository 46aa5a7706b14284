-- what is promised
pub mod Told
pub mod First
pub mod Second
pub mod Third
-- the entries answer what is spoken of
pub mod Entries
-- all refusals and rows (that the promises hold stands in proofs/)
pub mod Rows
