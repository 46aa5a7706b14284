pub mod Scan
pub mod Held
pub mod Answer
pub mod Going
