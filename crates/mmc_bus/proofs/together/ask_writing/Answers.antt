use Rattle.std.proofs.Common.{◌∙◌, ap, subst, sym, ℕ}
use Rattle.std.specs.Prelude.{IsErr, Result, Some}
use Rattle.mmc_bus.specs.Heard.{cause_of, cause_of_command, cause_of_response}
use Rattle.mmc_bus.specs.declared.host.Unheard.{Unheard}
use Rattle.std.specs.Prelude.{false}
use Rattle.mmc_bus.specs.Learned.{meant}
use Rattle.mmc_bus.proofs.Hear.{asked, poll_facts, write_facts}
use Rattle.mmc_bus.proofs.Readers.{IsAnswerTo, asks_none, responded_answer, response_reads, with_errors}
use Rattle.mmc_bus.proofs.TogetherLemmas.{one_facts, written_as, written_few}
use Rattle.mmc_bus.proofs.together.ask_writing.Goals as goal

pub returns-clause-asked : goal.returns-clause-asked
returns-clause-asked g c =
    let old = g.B.Bus.view c.args.bus.now in
    let e = c.write_with-reply.ensures in
    record {
      between = e.between;
      asked = asked (λ met. IsAnswerTo (meant met.card c.args.index)) _ _ old c.encode.result c.args.index c.args.argument c.wanted.result
          c.write_with-reply.result.0 c.response_in.result _
          (λ met. response_reads c.args.index c.args.argument (meant met.card c.args.index)
          (asks_none met.card.made.kind met.card.app c.args.index c.requires.command c.requires.checked))
          (λ met k left errors choice. responded_answer choice (meant met.card c.args.index) (with_errors left errors met.card) c.args.index c.args.argument k.registers)
          c.encode.ensures c.wanted.ensures c.response_in.ensures e.commanded;
      cause = ap cause_of e.commanded.last
          ∙ ap (λ s. Some (cause_of_command s c.write_with-reply.result.0)) c.encode.ensures
          ∙ ap (λ (r : Result ℕ Unheard). Some (cause_of_response r)) (sym c.response_in.ensures);
      unheard = λ err. e.unheard (c.args.index, c.args.argument) c.encode.ensures
          (subst (λ (r : Result ℕ Unheard). IsErr r) c.response_in.ensures err);
      written = written_as e.between
          (λ a b got bytes step. one_facts a _ b step (λ k limits bounded s. write_facts a bytes got b limits bounded s))
          (λ a b step. one_facts a _ b step (λ k limits bounded s. poll_facts a false b limits bounded s))
          _ _ e.written;
    }

pub returns-clause-few : goal.returns-clause-few
returns-clause-few g c = written_few c.write_with-reply.ensures.between _ _ c.write_with-reply.ensures.written
