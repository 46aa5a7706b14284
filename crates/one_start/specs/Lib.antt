-- what is answered
pub mod Answer
-- from the search to the answer
pub mod Question
pub mod Found
