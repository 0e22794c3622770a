mod GapLemmas
mod GroupLemmas
mod SearchLemmas
mod ServedLemmas
mod SlotLemmas
mod TicketLemmas
mod WorkLemmas
