pub mod Front
pub mod Places
pub mod Standing
pub mod Numbers
pub mod Signs
pub mod Told
pub mod Heard
pub mod Fronts
