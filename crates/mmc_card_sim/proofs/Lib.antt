pub mod BuildLemmas
pub mod FaultLemmas
pub mod FlipLemmas
pub mod MovingLemmas
pub mod PlanLemmas
pub mod SimSteps
pub mod SpecLemmas
