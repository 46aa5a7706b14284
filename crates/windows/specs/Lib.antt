-- what is refused, and what the panel shows
pub mod Admit
pub mod Answer
-- there is one answer only
pub mod Unique
-- from rows of moments to the rooms, and the question to the bytes
pub mod Found
pub mod Question
