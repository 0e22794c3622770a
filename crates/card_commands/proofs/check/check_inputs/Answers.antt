use Rattle.std.proofs.Common.{subst}
use Rattle.card_commands.specs.Checked.{DescribesCard}
use Rattle.card_commands.proofs.CheckLemmas.{described}
use Rattle.card_commands.proofs.check.check_inputs.Goals as goal

pub returns : goal.returns
returns g c = λ good.
    described (g.C.Read.remaining c.args.card.now) c.in_ok-text.text.items c.in_ok-text.ensures.ok
    (subst DescribesCard c.as_slice.ensures.value (c.in_ok-card.ensures (c.are_good-good.ensures good)))
