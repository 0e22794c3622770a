use Rattle.std.proofs.Common.{rules, sym, ◌∙◌}
use Rattle.nbd_server.proofs.InputLemmas.{has_junk, has_plain, has_write}
use Rattle.nbd_server.proofs.input.has_request.Goals as goal

pub returns-then-ne : goal.returns-then-ne
returns-then-ne g c = λ plain. rw (sym c.buffer.ensures)
    (has_plain c.buffer.result.now c.in-Some.header.now c.in-Some.after.now c.in-Some-request_in.request c.in-Some.ensures.cases.0
    c.in-Some.ensures.cases.2 (sym c.request_in.ensures ∙ c.in-Some-request_in.is) (search rules))

pub returns-else-ne : goal.returns-else-ne
returns-else-ne g c = λ fits. rw (sym c.buffer.ensures)
    (has_write c.buffer.result.now c.in-Some.header.now c.in-Some.after.now c.in-Some-request_in.request c.in-Some.ensures.cases.0
    c.in-Some.ensures.cases.2 (sym c.request_in.ensures ∙ c.in-Some-request_in.is) (search rules))

pub returns-in-None : goal.returns-in-None
returns-in-None g c = λ junk. rw (sym c.buffer.ensures)
    (has_junk c.buffer.result.now c.in-Some.header.now c.in-Some.after.now c.in-Some.ensures.cases.0 c.in-Some.ensures.cases.2
    (sym c.request_in.ensures ∙ c.in-None.is))
