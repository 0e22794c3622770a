use Rattle.std.proofs.Common.{◌∙◌, ap, refl}
use Rattle.std.specs.Prelude.{length}
use Rattle.mmc_card_rows.specs.Chip.{card_of}
use Rattle.mmc_card_sim.specs.FaultyExchanges.{fits_read}
use Rattle.mmc_card_sim.proofs.SimSteps.{data_read, in_all, room, still_ok}
use Rattle.mmc_card_sim.proofs.sim_card.SimCard.read_data.Goals as goal

pub counted-self-inside-requires : goal.counted-self-inside-requires
counted-self-inside-requires c =
    room _ c.fault-fault.result c.faulty_send-got.result.1 c.self.invariant c.fault-fault.ensures
    (λ none. c.faulty_send-got.ensures.fell_is
    ∙ ap (λ f. fits_read f (card_of c.self.inside.chip) c.self.inside.wire.lines (length c.args.buffer.now)) none)

pub invariant_of-self : goal.invariant_of-self
invariant_of-self c =
    let did = data_read c.self.inside.plan _ _ _ _ _ _ _ c.fault-fault.result _ c.faulty_send-got.result.0
    c.faulty_send-got.new.buffer
    c.faulty_send-got.result.1 c.counted-self-inside.ensures c.faulty_send-got.ensures c.self.invariant.is_card
    c.note.ensures
    (in_all _ c.fault-fault.result c.faulty_send-got.result.1 _ _ _ c.self.invariant c.fault-fault.ensures
    (λ none. c.faulty_send-got.ensures.fell_is
    ∙ ap (λ f. fits_read f (card_of c.self.inside.chip) c.self.inside.wire.lines (length c.args.buffer.now)) none)
    c.counted-self-inside.ensures c.note.ensures) in
    still_ok _ _ c.fault-fault.result c.faulty_send-got.result.1 _ c.self.invariant c.note_state.ensures.waits refl c.fault-fault.ensures
    (λ none. c.faulty_send-got.ensures.fell_is
    ∙ ap (λ f. fits_read f (card_of c.self.inside.chip) c.self.inside.wire.lines (length c.args.buffer.now)) none)
    c.counted-self-inside.ensures c.note.ensures did.1

pub returns-clause-exchanged : goal.returns-clause-exchanged
returns-clause-exchanged c =
    let did = data_read c.self.inside.plan _ _ _ _ _ _ _ c.fault-fault.result _ c.faulty_send-got.result.0
    c.faulty_send-got.new.buffer
    c.faulty_send-got.result.1 c.counted-self-inside.ensures c.faulty_send-got.ensures c.self.invariant.is_card
    c.note.ensures
    (in_all _ c.fault-fault.result c.faulty_send-got.result.1 _ _ _ c.self.invariant c.fault-fault.ensures
    (λ none. c.faulty_send-got.ensures.fell_is
    ∙ ap (λ f. fits_read f (card_of c.self.inside.chip) c.self.inside.wire.lines (length c.args.buffer.now)) none)
    c.counted-self-inside.ensures c.note.ensures) in
    rw (← c.self.view_is) did.0
