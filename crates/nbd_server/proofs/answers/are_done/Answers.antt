use Rattle.std.proofs.Common.{inl, inr, ◌∙◌}
use Rattle.mmc_block.specs.declared.completion.Answer.TheVariants.{Done}
use Rattle.nbd_server.specs.Parts.{Has}
use Rattle.nbd_server.proofs.PartsLemmas.{below_next}
use Rattle.nbd_server.proofs.answers.are_done.Goals as goal

pub loop-number-preserved : goal.loop-number-preserved
loop-number-preserved c =
    let (one, among, client, answer) = c.in-Some.ensures in
    below_next (λ n. Has c.args.given.now n Done) c.loop-number.number c.loop-number.invariant
    (one, among, client, answer ∙ c.is_done.ensures.done c.if-not-is_done.false)

pub returns-in_default-clause-undone : goal.returns-in_default-clause-undone
returns-in_default-clause-undone c = λ is. (c.loop-number.number, c.loop-number-test.true, inl c.in_default.ensures)

pub returns-then-not-is_done-clause-undone : goal.returns-then-not-is_done-clause-undone
returns-then-not-is_done-clause-undone c = λ is.
    (c.loop-number.number, c.loop-number-test.true, inr (c.in-Some.answer.now, c.in-Some.ensures, c.is_done.ensures.undone c.if-not-is_done.true))
