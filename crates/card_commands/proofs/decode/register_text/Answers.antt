use Rattle.std.proofs.lemmas.Result.{IfOk-weaker}
use Rattle.card_commands.specs.Printed.IsDecoded.{a_register}
use Rattle.card_commands.proofs.decode.register_text.Goals as goal

pub returns-in-Ok : goal.returns-in-Ok
returns-in-Ok c =
    IfOk-weaker c.register_lines.result _ _ (λ lines puts. a_register c.args.register c.as_slice.result.now puts)
    c.register_lines.ensures
