use Rattle.std.proofs.Common.{arith, ◌≢◌}
use Rattle.std.proofs.lemmas.List.Elements.{All-contains}
use Rattle.mmc_block.specs.declared.completion.Completion.{Completion}
use Rattle.nbd_server.proofs.answers.answer_to.Goals as goal

pub returns : goal.returns
returns c = λ answer (one, among, client, is).
    absurd (All-contains (λ (x : Completion). x.client ≢ c.args.number) c.args.given.now one
    (λ k d less. c.loop-completion.invariant k d (omega (arith, less, c.loop-completion-test.false))) among client)
