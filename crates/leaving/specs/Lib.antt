-- checks of the demands of all steps, step by step back and forth at once
pub mod Leaving
