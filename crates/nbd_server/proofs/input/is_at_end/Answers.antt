use Rattle.std.proofs.Common.{rules, ◌≡◌, length}
use Rattle.nbd_server.proofs.InputLemmas.{at_end}
use Rattle.nbd_server.proofs.input.is_at_end.Goals as goal

pub returns-in-Ok-clause-end : goal.returns-in-Ok-clause-end
returns-in-Ok-clause-end g c = λ empty.
    let none : length c.in-Ok.bytes.now ≡ 0 = search rules in at_end _ _ c.in-Ok.ensures.end none
