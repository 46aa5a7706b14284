pub mod Rounds
pub mod Admission
pub mod Admitted
