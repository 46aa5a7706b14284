pub mod Room
pub mod Row
pub mod OneCount
pub mod OnePlan
pub mod PlanAgrees
