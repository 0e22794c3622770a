use Rattle.std.proofs.Common.{◌<◌, arith, ap, ◌∙◌, ◌/◌}
use Rattle.std.specs.Prelude.{nat_eq, slice_index}
use Rattle.mmc_frame.proofs.Frames.{frame_test}
use Rattle.mmc_frame.proofs.frame.is_sound_frame.Goals as goal

pub returns : goal.returns
returns c =
    let fits : slice_index c.args.frame.now 5 < 256 = omega (arith, c.fits-frame 5) in
    ap (λ x. nat_eq x (slice_index c.args.frame.now 5 / 2)) c.check_of.ensures.value
    ∙ frame_test c.args.frame.now c.told-frame fits
