use Rattle.std.proofs.Common.{◌∙◌, ◌≡◌, ap, refl}
use Rattle.std.specs.Prelude.{◌||◌, None, false}
use Rattle.mmc_card.proofs.ByteLemmas.{block_at}
use Rattle.mmc_card_rows.specs.Chip.{card_of}
use Rattle.mmc_card_sim.specs.FaultyExchanges.{fits_write}
use Rattle.mmc_card_sim.proofs.SimSteps.{counts_as, data_written, in_all, no_write_fits, none_planned, room, still_ok, waits_on}
use Rattle.mmc_card_sim.proofs.sim_card.SimCard.write_data.Goals as goal

pub counted-self-inside-requires : goal.counted-self-inside-requires
counted-self-inside-requires c =
    room _ c.fault-fault.result _ c.self.invariant c.fault-fault.ensures
    (none_planned c.fault-fault.result _ _ _ c.pass_time-unseen.ensures.fell (λ none. c.faulty_accept-got.ensures.fell_is
    ∙ ap (λ f. fits_write f (card_of c.pass_time-unseen.new.chip) c.self.inside.wire.lines) none))

-- none falls that isn't planned
unplanned : (c : goal.After-note) → c.fault-fault.result ≡ None → (c.pass_time-unseen.result || c.faulty_accept-got.result.1) ≡ false
unplanned c =
    none_planned c.fault-fault.result _ _ _ c.pass_time-unseen.ensures.fell (λ none. c.faulty_accept-got.ensures.fell_is
    ∙ ap (λ f. fits_write f (card_of c.pass_time-unseen.new.chip) c.self.inside.wire.lines) none)

pub invariant_of-self : goal.invariant_of-self
invariant_of-self c =
    let did = data_written _ c.self.invariant c.fault-fault.result _ c.pass_time-unseen.ensures.waits _ _ c.pass_time-unseen.ensures.card
    c.pass_time-unseen.ensures.fell _ c.faulty_accept-got.result.1 _ _ c.counted-self-inside.ensures c.args.block.now
    c.faulty_accept-got.result.0 c.faulty_accept-got.ensures (block_at _ c.told-block c.fits-block) c.note.ensures
    (in_all _ c.fault-fault.result _ _ _ _ c.self.invariant c.fault-fault.ensures (unplanned c) c.counted-self-inside.ensures
    c.note.ensures) in
    still_ok _ _ c.fault-fault.result _ _ c.self.invariant
    (waits_on _ _ _ c.pass_time-unseen.ensures.waits c.note_state.ensures.waits) refl c.fault-fault.ensures (unplanned c)
    c.counted-self-inside.ensures c.note.ensures did.1

pub returns-clause-exchanged : goal.returns-clause-exchanged
returns-clause-exchanged c =
    let did = data_written _ c.self.invariant c.fault-fault.result _ c.pass_time-unseen.ensures.waits _ _ c.pass_time-unseen.ensures.card
    c.pass_time-unseen.ensures.fell _ c.faulty_accept-got.result.1 _ _ c.counted-self-inside.ensures c.args.block.now
    c.faulty_accept-got.result.0 c.faulty_accept-got.ensures (block_at _ c.told-block c.fits-block) c.note.ensures
    (in_all _ c.fault-fault.result _ _ _ _ c.self.invariant c.fault-fault.ensures (unplanned c) c.counted-self-inside.ensures
    c.note.ensures) in
    rw (← c.self.view_is) did.0

pub returns-clause-counts : goal.returns-clause-counts
returns-clause-counts c =
    let fell_is = c.faulty_accept-got.ensures.fell_is in
    let met_card = card_of c.pass_time-unseen.new.chip in
    rw (← c.self.view_is, ← c.fault-fault.ensures) (counts_as _ c.self.invariant c.fault-fault.result _ c.pass_time-unseen.ensures.waits _ _
    c.pass_time-unseen.ensures.card c.pass_time-unseen.ensures.fell (card_of c.faulty_accept-got.new.chip)
    c.faulty_accept-got.result.1 _ c.note.new.self c.counted-self-inside.ensures
    (λ delays card. fits_write c.fault-fault.result card c.self.inside.wire.lines)
    (λ fits. fell_is ∙ no_write_fits c.fault-fault.result (card_of c.self.inside.chip) met_card c.self.inside.wire.lines fits)
    fell_is c.pass_time-unseen.ensures.delays)
