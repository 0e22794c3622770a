use Rattle.std.proofs.Common.{◌∙◌, ap, sym, ℕ}
use Rattle.std.specs.Prelude.{Result, Some}
use Rattle.mmc_bus.specs.Heard.{cause_of, cause_of_command, cause_of_response}
use Rattle.mmc_bus.specs.declared.host.Unheard.{Unheard}
use Rattle.mmc_bus.specs.Learned.{meant}
use Rattle.mmc_bus.proofs.Hear.{asked, read_facts}
use Rattle.mmc_bus.proofs.Readers.{IsAnswerTo, asks_none, responded_answer, response_reads, with_errors}
use Rattle.mmc_bus.proofs.TogetherLemmas.{one_facts, read_as, read_count, read_few, read_lent}
use Rattle.mmc_bus.proofs.together.ask_reading.Goals as goal

pub returns-clause-asked : goal.returns-clause-asked
returns-clause-asked g c =
    let old = g.B.Bus.view c.args.bus.now in
    let e = c.read_with-reply.ensures in
    record {
      between = e.between;
      asked = asked (λ met. IsAnswerTo (meant met.card c.args.index)) _ _ old c.encode.result c.args.index c.args.argument c.wanted.result
          c.read_with-reply.result.0 c.response_in.result _
          (λ met. response_reads c.args.index c.args.argument (meant met.card c.args.index)
          (asks_none met.card.made.kind met.card.app c.args.index c.requires.command c.requires.checked))
          (λ met k left errors choice. responded_answer choice (meant met.card c.args.index) (with_errors left errors met.card) c.args.index c.args.argument k.registers)
          c.encode.ensures c.wanted.ensures c.response_in.ensures e.commanded;
      cause = ap cause_of e.commanded.last
          ∙ ap (λ s. Some (cause_of_command s c.read_with-reply.result.0)) c.encode.ensures
          ∙ ap (λ (r : Result ℕ Unheard). Some (cause_of_response r)) (sym c.response_in.ensures);
      read = read_as e.between c.args.blocks.now
          (λ a b got left step. one_facts a _ b step (λ k limits bounded s. read_facts a 512 got left b limits bounded s))
          _ _ _ e.read;
    }

pub returns-clause-few : goal.returns-clause-few
returns-clause-few g c =
    read_few c.read_with-reply.ensures.between c.args.blocks.now g.met.D.BlocksMut.writes_one _ _ _
    c.read_with-reply.ensures.read

pub returns-clause-count : goal.returns-clause-count
returns-clause-count g c =
    read_count c.read_with-reply.ensures.between c.args.blocks.now g.met.D.BlocksMut.writes_one _ _ _
    c.read_with-reply.ensures.read

pub returns-clause-lent : goal.returns-clause-lent
returns-clause-lent g c =
    read_lent c.read_with-reply.ensures.between c.args.blocks.now g.met.D.BlocksMut.writes_one _ _ _
    c.read_with-reply.ensures.read
