use Rattle.std.proofs.Common.{◌∙◌, subst, sym}
use Rattle.card_check.specs.Notes.{FitsNothing}
use Rattle.card_check.proofs.FaultNoteLemmas.{flips_nothing}
use Rattle.card_check.proofs.fault_notes.can_fall.Goals as goal

pub returns-in-FlipReply-clause-never : goal.returns-in-FlipReply-clause-never
returns-in-FlipReply-clause-never c h =
    subst (FitsNothing c.args.kind) (sym c.in-FlipReply.is)
    (flips_nothing c.args.kind c.in-FlipReply.flips (sym c.is_flip-in-FlipReply.ensures ∙ h))
