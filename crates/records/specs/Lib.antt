pub mod Rules
pub mod Checking
pub mod Marks
pub mod Tests
