use Rattle.std.proofs.Common.{◌∙◌, ap, refl}
use Rattle.mmc_card_rows.specs.Chip.{card_of}
use Rattle.mmc_card_sim.specs.FaultyExchanges.{fits_poll}
use Rattle.mmc_card_sim.proofs.SimSteps.{in_all, polled, room, still_ok}
use Rattle.mmc_card_sim.proofs.sim_card.SimCard.busy.Goals as goal

pub counted-self-inside-requires : goal.counted-self-inside-requires
counted-self-inside-requires c =
    room _ c.fault-fault.result c.faulty_poll-yes.result.1 c.self.invariant c.fault-fault.ensures
    (λ none. c.faulty_poll-yes.ensures.fell_is ∙ ap (λ f. fits_poll f (card_of c.self.inside.chip)) none)

pub invariant_of-self : goal.invariant_of-self
invariant_of-self c =
    let did = polled c.self.inside.plan _ _ _ c.self.invariant.soon_rested _ _ _ _ c.fault-fault.result
    c.faulty_poll-yes.result.0
    c.faulty_poll-yes.result.1 c.counted-self-inside.ensures c.faulty_poll-yes.ensures
    c.self.invariant.is_card c.note.ensures
    (in_all _ c.fault-fault.result c.faulty_poll-yes.result.1 _ _ _ c.self.invariant c.fault-fault.ensures
    (λ none. c.faulty_poll-yes.ensures.fell_is ∙ ap (λ f. fits_poll f (card_of c.self.inside.chip)) none)
    c.counted-self-inside.ensures c.note.ensures) in
    still_ok _ _ c.fault-fault.result c.faulty_poll-yes.result.1 _ c.self.invariant c.note_state.ensures.waits refl c.fault-fault.ensures
    (λ none. c.faulty_poll-yes.ensures.fell_is ∙ ap (λ f. fits_poll f (card_of c.self.inside.chip)) none)
    c.counted-self-inside.ensures c.note.ensures did.1

pub returns-clause-exchanged : goal.returns-clause-exchanged
returns-clause-exchanged c =
    let did = polled c.self.inside.plan _ _ _ c.self.invariant.soon_rested _ _ _ _ c.fault-fault.result
    c.faulty_poll-yes.result.0
    c.faulty_poll-yes.result.1 c.counted-self-inside.ensures c.faulty_poll-yes.ensures
    c.self.invariant.is_card c.note.ensures
    (in_all _ c.fault-fault.result c.faulty_poll-yes.result.1 _ _ _ c.self.invariant c.fault-fault.ensures
    (λ none. c.faulty_poll-yes.ensures.fell_is ∙ ap (λ f. fits_poll f (card_of c.self.inside.chip)) none)
    c.counted-self-inside.ensures c.note.ensures) in
    rw (← c.self.view_is) did.0
