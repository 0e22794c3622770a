pub mod CommandLemmas
pub mod ErasingLemmas
pub mod StepLemmas
pub mod TurnLemmas
pub mod WholeLemmas
