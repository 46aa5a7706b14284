-- an effect in a row of codes, and its left part
pub mod Grid
-- a variant's demands put into it
pub mod Demands
-- its solutions tell the starts
pub mod Admitted
