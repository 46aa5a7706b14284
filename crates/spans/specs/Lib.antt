-- when a step may happen: the definitions, and that there is one answer only
pub mod Span
pub mod Unique
-- solutions of the demands from log-in
pub mod Solutions
-- the plan's moments and the bounds tell the spans
pub mod Found
pub mod Exact
