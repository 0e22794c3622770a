use Rattle.std.proofs.Common.{◌≡◌, ◌++◌, [], append-nil, ◌∙◌, ap}
use Rattle.mmc_frame.specs.RegisterFrame.{register_in, register_frame}
use Rattle.mmc_frame.proofs.Frames.{register_comes_back}
use Rattle.mmc_frame.proofs.register_response.encode_r2.Goals as goal

pub returns-clause-read : goal.returns-clause-read
returns-clause-read c = λ sound odd.
    let same : c.copy_from_slice.new.self ++ [] ≡ c.args.register.now = append-nil _
    ∙ c.copy_from_slice.ensures.after in
    ap (λ r. register_in (register_frame r)) same ∙ register_comes_back c.args.register.now c.told-register sound odd
