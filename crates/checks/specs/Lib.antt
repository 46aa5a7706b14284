-- demands as difference constraints in parts
pub mod InParts
-- checks of demands, list by list
pub mod Checks
pub mod Turns
-- of a key, and of one side of a step
pub mod KeyChecks
pub mod SideChecks
pub mod LeadChecks
-- the guards between two clocks of a step, as a row tells them, and their checks
pub mod Led
pub mod LedChecks
-- of demands of a list in any order
pub mod Some
