-- what is asked and answered, and that there is one answer only
pub mod Answer
pub mod Unique
-- from rows of moments to the choice, and the question to the bytes
pub mod Found
pub mod Question
