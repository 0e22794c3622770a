use Rattle.std.proofs.Common.{subst, sym}
use Rattle.card_commands.specs.Printed.{IsDecoded}
use Rattle.card_commands.proofs.decode.put_subject.Goals as goal

pub put_text-requires : goal.put_text-requires
put_text-requires g c = subst IsDecoded (sym c.as_slice.ensures.value) c.in_ok-text-in-Frame.ensures

pub put_text-requires-in-Register : goal.put_text-requires-in-Register
put_text-requires-in-Register g c = subst IsDecoded (sym c.as_slice-in-Register.ensures.value) c.in_ok-text-in-Register.ensures
