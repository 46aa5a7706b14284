pub mod Moved
pub mod Scans
pub mod Given
pub mod Asking
