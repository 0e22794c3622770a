use Rattle.std.proofs.Common.{ap, ◌∙◌, append-nil}
use Rattle.std.proofs.Common.{◌/◌}
use Rattle.byteorder.specs.Endian.{big_bytes}
use Rattle.mmc_frame.specs.RegisterFrame.{with_check}
use Rattle.mmc_regs.specs.Register.{checked_register}
use Rattle.card_maker.proofs.csd.checked_register.Goals as goal

pub returns : goal.returns
unfolding checked_register
returns c = c.with_check.ensures.value ∙ ap with_check (c.write_uint128.ensures ∙ append-nil (big_bytes 15 (c.args.number / 256)))
