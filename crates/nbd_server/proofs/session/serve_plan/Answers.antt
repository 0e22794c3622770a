use Rattle.std.proofs.Common.{[], refl, ◌∷◌}
use Rattle.nbd_server.specs.Acts.Act.{Asks, Says}
use Rattle.nbd_server.proofs.DeskLemmas.{no_turns, on_ok, on_ok_then, says_does}
use Rattle.nbd_server.proofs.session.serve_plan.Goals as goal

pub returns-in-Answer : goal.returns-in-Answer
returns-in-Answer g c = rw c.in-Answer.is (
  Says c.args.cookie c.in-Answer.error ∷ [],
  says_does g.B.Bus.view _ c.args.cookie c.in-Answer.error _ _ _ c.put_reply.ensures,
  on_ok c.put_reply.result _ ([], Says c.args.cookie c.in-Answer.error ∷ [], no_turns, refl, refl),
)

pub returns-in-Ask : goal.returns-in-Ask
returns-in-Ask g c =
    let (acts, does, asked) = c.ask.ensures in rw c.in-Ask.is (
      acts,
      does,
      on_ok_then c.ask.result _ _ (λ (turns, reply, are, is). (turns, Asks c.args.cookie c.in-Ask.request reply ∷ [], are, is, (reply, refl))) asked,
    )

pub returns-in-WriteLong : goal.returns-in-WriteLong
returns-in-WriteLong g c = rw c.in-WriteLong.is c.serve_write.ensures

pub returns-in-ReadLong : goal.returns-in-ReadLong
returns-in-ReadLong g c = rw c.in-ReadLong.is c.serve_read.ensures
