pub mod PlanLines
pub mod Same
