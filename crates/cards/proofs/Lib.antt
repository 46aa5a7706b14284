pub mod Faults
pub mod Lined
pub mod RoundTrip
pub mod Returns
