pub mod Choice
pub mod Numbers
pub mod Tab
pub mod Places
pub mod Signed
pub mod Mapped
pub mod Pigeon
pub mod Distinct
