use Rattle.std.proofs.Common.{◌∙◌, ap}
use Rattle.mmc_frame.specs.RegisterFrame.{with_check}
use Rattle.card_explain.proofs.FrameLemmas.{check_of_register}
use Rattle.card_explain.proofs.long_frame.register_check.Goals as goal

pub returns : goal.returns
returns c =
    check_of_register c.args.frame.now c.with_check-register.result c.told-frame
    (c.with_check-register.ensures.value ∙ ap with_check c.copy_from_slice.ensures.after)
