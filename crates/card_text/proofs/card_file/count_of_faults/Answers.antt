use Rattle.std.proofs.Common.{rules}
use Rattle.std.proofs.lemmas.Iterator.{YieldsList-from_slice}
use Rattle.std.proofs.lemmas.Iterator.Consumers.{YieldsList-from_filter_map, count_from_yields_List}
use Rattle.card_text.specs.CardFile.{plan_of, planned_of_line}
use Rattle.card_text.proofs.card_file.count_of_faults.Goals as goal

pub returns : goal.returns
unfolding plan_of
returns c =
    count_from_yields_List _ _ c.count.ensures.ran
    (YieldsList-from_filter_map _ planned_of_line (YieldsList-from_slice c.args.lines.now cc) c.filter_map.ensures.closure (λ x r q called. search rules))
