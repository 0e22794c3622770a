use Rattle.std.proofs.Common.{◌<◌, arith, ap, ◌∙◌, ◌/◌}
use Rattle.std.specs.Prelude.{nat_eq, slice_index}
use Rattle.mmc_frame.proofs.Frames.{register_test}
use Rattle.mmc_frame.proofs.register_response.check_fits.Goals as goal

pub returns : goal.returns
returns c =
    let fits : slice_index c.args.register.now 15 < 256 = omega (arith, c.fits-register 15) in
    ap (λ x. nat_eq x (slice_index c.args.register.now 15 / 2)) c.check_of.ensures.value
    ∙ register_test c.args.register.now c.told-register fits
