mod BlockLemmas
mod JoinedLemmas
mod LentLemmas
mod ServingLemmas
mod StartLemmas
mod StepLemmas
mod TicketLemmas
