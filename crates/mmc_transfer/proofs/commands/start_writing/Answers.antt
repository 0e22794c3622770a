use Rattle.std.proofs.Common.{◌≡◌, ◌⊎◌, ◌≤◌, ◌+◌, arith, inl, inr, refl, ℕ}
use Rattle.std.specs.Prelude.{Err, IsErr, Ok, Result}
use Rattle.mmc_bus.proofs.WorkLemmas.{command_worked}
use Rattle.mmc_card.specs.Laws.{IsStill}
use Rattle.mmc_bus.specs.Heard.{cause_of, cause_of_response}
use Rattle.mmc_bus.specs.declared.host.Unheard.{Unheard}
use Rattle.mmc_transfer.proofs.CommandLemmas.{asked_as, begins_where_it_can, begun_or_in_tran, begun_where_answered, caused}
use Rattle.mmc_transfer.proofs.CommandLemmas.{erases_nothing, is_of_the_run, write_law}
use Rattle.mmc_transfer.specs.declared.way.Way.TheVariants.{Write}
use Rattle.mmc_transfer.proofs.commands.start_writing.Goals as goal

-- nothing was moved, or the card was heard
answers_by : {Quiet Says : Type 0} (heard : Result ℕ Unheard) → (IsErr heard → Quiet)
    → ((told : ℕ) → heard ≡ Ok told → Says) → Quiet ⊎ Says
answers_by (Ok told) quiet says = inr (says told refl)
answers_by (Err why) quiet says = inl (quiet refl)

pub returns-clause-started : goal.returns-clause-started
returns-clause-started g c =
    let kind = c.args.kind in
    let is_single = c.args.is_single in
    let address = c.args.address in
    let old = g.B.Bus.view c.args.bus.now in
    let all = c.ask_writing-heard.ensures.asked in
    let asked = asked_as c.command_of.ensures.named all.asked in
    let count = asked.exchanged.exchanges in
    let few : all.between.exchanges ≤ old.exchanges + 1 = omega (arith, count) in
    record {
      between = all.between;
      ends = (
        few,
        caused c.check_r1.result (cause_of_response c.ask_writing-heard.result.0) (cause_of all.between.last)
            c.check_r1.ensures.cause all.cause,
      );
      kept = λ kept. (asked.exchanged.kept kept).was_kept;
      works = λ kept.
          let k = asked.exchanged.kept kept in
          let begins = λ (is : IsStill old.card). write_law c.cmd24_begins_a_write.ensures c.cmd25_begins_a_write_of_blocks.ensures is_single old _ address
          _ (k.step.at_once is) k.was_card in
          command_worked asked (erases_nothing Write is_single old.card address) (is_of_the_run Write is_single old.card address)
          kept
          (λ ok is. let told = c.check_r1.ensures.ok ok in
          begun_where_answered kind Write is_single old address _ _ (begins is) told.0 told.1 told.2)
          (λ same can. begins_where_it_can kind Write is_single old address _ _ (begins can.obeys.is_still)
          c.a_status_tells_of_its_card.ensures.errors k.was_card c.check_r1.ensures.all same can);
      answered = answers_by c.ask_writing-heard.result.0 all.unheard
          (λ told says kept is none.
          let k = asked.exchanged.kept kept in
          let begins = λ (is : IsStill old.card). write_law c.cmd24_begins_a_write.ensures c.cmd25_begins_a_write_of_blocks.ensures is_single old _ address
          _ (k.step.at_once is) k.was_card in
          begun_or_in_tran kind Write is_single old address _ _ (begins is) told says none);
      written = all.written;
    }
