-- what is defined
pub mod Tray
pub mod Answer

-- and laws of it
