use Rattle.mmc_bus.specs.Learned.{meant}
use Rattle.mmc_bus.proofs.Hear.{asked}
use Rattle.mmc_bus.proofs.Readers.{IsAnswerTo, asks_none, responded_answer, response_reads, with_errors}
use Rattle.mmc_bus.proofs.host.ask_moving.Goals as goal

pub returns-clause-asked : goal.returns-clause-asked
returns-clause-asked g c =
    let old = g.B.Bus.view c.args.bus.now in
    asked (λ met. IsAnswerTo (meant met.card c.args.index)) _ _ old c.encode.result c.args.index c.args.argument c.wanted.result c.begin-reply.result
    c.response_in.result _
    (λ met. response_reads c.args.index c.args.argument (meant met.card c.args.index)
    (asks_none met.card.made.kind met.card.app c.args.index c.requires.command c.requires.checked))
    (λ met k left errors choice. responded_answer choice (meant met.card c.args.index) (with_errors left errors met.card) c.args.index c.args.argument k.registers)
    c.encode.ensures c.wanted.ensures c.response_in.ensures c.begin-reply.ensures
