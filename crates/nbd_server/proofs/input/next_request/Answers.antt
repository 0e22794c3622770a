use Rattle.std.proofs.Common.{rules, []}
use Rattle.nbd_server.proofs.InputLemmas.{consumes_none, consumes_then}
use Rattle.nbd_server.proofs.input.next_request.Goals as goal

pub returns-in-Some-clause-read : goal.returns-in-Some-clause-read
returns-in-Some-clause-read g c = (
  c.fill.new.bytes,
  search rules,
  search rules,
  consumes_then _ _ _ [] c.fill.new.bytes (consumes_none _ _ c.is_at_end.ensures.kept) c.in_ok-fill.ensures.read,
)

pub returns-in-None-clause-fault : goal.returns-in-None-clause-fault
returns-in-None-clause-fault g c = λ junk. (
  c.fill.new.bytes,
  search rules,
  search rules,
  consumes_then _ _ _ [] c.fill.new.bytes (consumes_none _ _ c.is_at_end.ensures.kept) c.in_ok-fill.ensures.read,
)
