use Rattle.nbd_server.proofs.InputLemmas.{shrinks_by, shrinks_then}
use Rattle.nbd_server.proofs.negotiation.serve_option.Goals as goal

pub returns-in_default-clause-read : goal.returns-in_default-clause-read
returns-in_default-clause-read g c =
    let (end, read) = rw c.in_default.is at c.in_ok-option.ensures in shrinks_by _ _ _ read

pub returns-clause-read : goal.returns-clause-read
returns-clause-read g c =
    let (head, fields, short, read) = rw c.in-Some.is at c.in_ok-option.ensures in
    let (many, more) = rw c.in-Some-2.is at c.in_ok-data.ensures.read in
    shrinks_then _ _ _ (shrinks_by _ _ _ read) (shrinks_by _ _ _ more)
