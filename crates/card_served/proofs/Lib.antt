pub mod BuildingLemmas
pub mod InputLemmas
pub mod PlanningLemmas
pub mod SavedLemmas
