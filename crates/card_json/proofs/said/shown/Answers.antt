use Rattle.std.proofs.Common.{◌∙◌}
use Rattle.card_json.proofs.ObjectLemmas.{shown_mark, shown_whole}
use Rattle.card_json.proofs.said.shown.Goals as goal

pub returns-in-Ok : goal.returns-in-Ok
returns-in-Ok c = c.in-Ok.ensures.cases.0 ∙ shown_whole _ c.in-Ok.ensures.cases.1

pub returns-in-Err : goal.returns-in-Err
returns-in-Err c = shown_mark _ c.in-Err.ensures.cases.0
