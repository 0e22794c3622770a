use Rattle.std.proofs.Common.{◌++◌, ◌∷◌, ◌*◌, ◌+◌, [], List, ℕ, ap, ◌∙◌}
use Rattle.mmc_frame.specs.RegisterFrame.{is_sound_register}
use Rattle.mmc_frame.proofs.Frames.{register_with_check}
use Rattle.mmc_frame.proofs.register_response.with_check.Goals as goal

pub returns-clause-sound : goal.returns-clause-sound
returns-clause-sound c =
    ap (λ (bs : List ℕ). is_sound_register (bs ++ (c.check_of.result * 2 + 1) ∷ [])) c.copy_from_slice.ensures.after
    ∙ register_with_check c.args.bytes.now c.check_of.result c.told-bytes c.check_of.ensures.small c.check_of.ensures.value
