use Rattle.std.proofs.Common.{◌∙◌, ◌≡◌, ap, refl}
use Rattle.std.specs.Prelude.{◌||◌, None, false}
use Rattle.mmc_card_rows.specs.Chip.{card_of}
use Rattle.mmc_card_sim.specs.FaultyExchanges.{fits_command}
use Rattle.mmc_card_sim.proofs.SimSteps.{commanded, counts_as, in_all, no_command_fits, none_planned, room, still_ok, waits_on}
use Rattle.mmc_card_sim.proofs.sim_card.SimCard.command.Goals as goal

pub counted-self-inside-requires : goal.counted-self-inside-requires
counted-self-inside-requires c =
    room _ c.fault-fault.result _ c.self.invariant c.fault-fault.ensures
    (none_planned c.fault-fault.result _ _ _ c.pass_time-unseen.ensures.fell (λ none. c.faulty_command-reply.ensures.fell_is
    ∙ ap (λ f. fits_command f c.pass_time-unseen.new.delays (card_of c.pass_time-unseen.new.chip) c.args.frame) none))

-- none falls that isn't planned
unplanned : (c : goal.After-note) → c.fault-fault.result ≡ None → (c.pass_time-unseen.result || c.faulty_command-reply.result.1) ≡ false
unplanned c =
    none_planned c.fault-fault.result _ _ _ c.pass_time-unseen.ensures.fell (λ none. c.faulty_command-reply.ensures.fell_is
    ∙ ap (λ f. fits_command f c.pass_time-unseen.new.delays (card_of c.pass_time-unseen.new.chip) c.args.frame) none)

pub invariant_of-self : goal.invariant_of-self
invariant_of-self c =
    let did = commanded _ c.self.invariant c.fault-fault.result _ c.pass_time-unseen.ensures.waits _ _ c.pass_time-unseen.ensures.card
    c.pass_time-unseen.ensures.fell _ c.faulty_command-reply.result.1 _ _ c.counted-self-inside.ensures (record {
      response = c.flipped_response_is_refused.ensures.r1;
      ocr = c.flipped_beside_the_ocr_is_refused.ensures;
      register = c.flipped_register_is_refused.ensures;
      back = c.register_comes_back.ensures;
    }) c.args.frame c.args.want c.faulty_command-reply.result.0 c.faulty_command-reply.ensures c.note.ensures
    (in_all _ c.fault-fault.result _ _ _ _ c.self.invariant c.fault-fault.ensures (unplanned c) c.counted-self-inside.ensures
    c.note.ensures) in
    still_ok _ _ c.fault-fault.result _ _ c.self.invariant
    (waits_on _ _ _ c.pass_time-unseen.ensures.waits (waits_on _ _ _ c.note_command.ensures.waits c.note_state.ensures.waits)) refl
    c.fault-fault.ensures (unplanned c) c.counted-self-inside.ensures c.note.ensures did.1

pub returns-clause-exchanged : goal.returns-clause-exchanged
returns-clause-exchanged c =
    let did = commanded _ c.self.invariant c.fault-fault.result _ c.pass_time-unseen.ensures.waits _ _ c.pass_time-unseen.ensures.card
    c.pass_time-unseen.ensures.fell _ c.faulty_command-reply.result.1 _ _ c.counted-self-inside.ensures (record {
      response = c.flipped_response_is_refused.ensures.r1;
      ocr = c.flipped_beside_the_ocr_is_refused.ensures;
      register = c.flipped_register_is_refused.ensures;
      back = c.register_comes_back.ensures;
    }) c.args.frame c.args.want c.faulty_command-reply.result.0 c.faulty_command-reply.ensures c.note.ensures
    (in_all _ c.fault-fault.result _ _ _ _ c.self.invariant c.fault-fault.ensures (unplanned c) c.counted-self-inside.ensures
    c.note.ensures) in
    rw (← c.self.view_is) did.0

pub returns-clause-counts : goal.returns-clause-counts
returns-clause-counts c =
    let fell_is = c.faulty_command-reply.ensures.fell_is in
    let first = card_of c.self.inside.chip in
    let met_card = card_of c.pass_time-unseen.new.chip in
    rw (← c.self.view_is, ← c.fault-fault.ensures) (counts_as _ c.self.invariant c.fault-fault.result _ c.pass_time-unseen.ensures.waits _ _
    c.pass_time-unseen.ensures.card c.pass_time-unseen.ensures.fell (card_of c.faulty_command-reply.new.chip)
    c.faulty_command-reply.result.1 _ c.note.new.self c.counted-self-inside.ensures
    (λ delays card. fits_command c.fault-fault.result delays card c.args.frame)
    (λ fits. fell_is ∙ no_command_fits c.fault-fault.result first c.pass_time-unseen.new.delays met_card c.args.frame fits)
    fell_is c.pass_time-unseen.ensures.delays)
