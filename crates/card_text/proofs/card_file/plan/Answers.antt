use Rattle.std.proofs.Common.{rules}
use Rattle.std.proofs.lemmas.Iterator.{YieldsList-from_slice, items_from_collect}
use Rattle.std.proofs.lemmas.Iterator.Consumers.{YieldsList-from_filter_map}
use Rattle.card_text.specs.CardFile.{plan_of, planned_of_line}
use Rattle.card_text.proofs.card_file.plan.Goals as goal

pub returns : goal.returns
unfolding plan_of
returns c =
    items_from_collect _ c.collect.ensures.ran
    (YieldsList-from_filter_map _ planned_of_line (YieldsList-from_slice c.args.lines.now cc) c.filter_map.ensures.closure
    (λ x r q called. search rules))
