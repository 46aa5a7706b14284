-- an effect laid over cells
pub mod Blocks
pub mod Laying
-- two of them
pub mod Gluing
