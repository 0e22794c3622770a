use Rattle.card_maker.proofs.CountLemmas.{if_err}
use Rattle.card_maker.proofs.MadeLemmas.{size_is_refused}
use Rattle.card_maker.proofs.card.judge_user.Goals as goal

pub returns-clause-err : goal.returns-clause-err
returns-clause-err c = if_err c.judge_size.result c.judge_size.ensures.err (size_is_refused c.args.wanted.now)
