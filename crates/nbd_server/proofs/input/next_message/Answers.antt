use Rattle.std.proofs.Common.{refl, ◌++◌}
use Rattle.nbd_server.proofs.InputLemmas.{consumes_then}
use Rattle.nbd_server.proofs.input.next_message.Goals as goal

pub returns-clause-read : goal.returns-clause-read
returns-clause-read g c =
    let (head, fields, short, read) = rw c.in-Some.is at c.in_ok-header.ensures.read in
    let (after, many, same, more) = c.in_ok-given.ensures.read in (
      after,
      head ++ after,
      record { head = head; fields = fields; short = short; whole = refl; all_data = many },
      same,
      consumes_then _ _ _ head after read more,
    )
