-- what is answered
pub mod Answer
pub mod One
-- from the search to the answer
pub mod First
pub mod Counting
pub mod Asking
