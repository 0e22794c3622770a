use Rattle.mmc_frame.proofs.Frames.{register_comes_back}
use Rattle.mmc_frame.proofs.laws.register_comes_back.Goals as goal

pub returns : goal.returns
returns c = λ register size sound odd. register_comes_back register size sound odd
