use Rattle.card_commands.specs.Printed.IsDecoded.{a_frame}
use Rattle.card_commands.proofs.decode.frame_text.Goals as goal

pub returns-in_ok-frame_lines-in-Ok : goal.returns-in_ok-frame_lines-in-Ok
returns-in_ok-frame_lines-in-Ok c = a_frame c.args.kind c.in-Ok.frame c.in_ok-frame_lines-in-Ok.ensures
