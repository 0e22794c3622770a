use Rattle.std.proofs.Common.{[], ap, arith, length, length-append, sym, ◌∷◌}
use Rattle.nbd_server.specs.Desk.{DeskView}
use Rattle.nbd_server.proofs.DeskLemmas.{queued, queued_numbered, queued_once, refused, refused_once}
use Rattle.nbd_server.proofs.desk.Desk.submit.Goals as goal
use Rattle.nbd_server.proofs.desk.Desk.submit.Goals.{in-Ok, in-Err}

pub invariant_of-self : goal.invariant_of-self
invariant_of-self g c =
    let k = c.self.inside.cookies.items in
    let same = ap (λ (d : DeskView _). length d.cookies) c.self.view_is in
    let longer = length-append k (c.args.cookie ∷ []) in
    let room = c.requires in
    record {
      numbered = rw c.push.ensures.items
          (queued_numbered k c.self.inside.device c.submit.new.self c.args.cookie _ _ c.args.request
          c.len-client.ensures.value c.in-Ok.ensures.accepted c.self.invariant.numbered);
      each = rw (c.push.ensures.items, c.in-Ok.ensures.accepted.waits) (omega (arith, longer, c.self.invariant.each, length-append c.self.inside.device.waits (record { ticket = c.self.inside.device.next; client = c.len-client.result; request = c.args.request } ∷ [])));
      few = rw c.push.ensures.items (omega (arith, same, longer, room));
      none = c.self.invariant.none;
    }

pub returns-clause-leads : goal.returns-clause-leads
returns-clause-leads g c =
    elim c.match-submit.branch [
      | in-Ok w ↦ rw (w.result-is, w.self-is, sym c.self.view_is)
          (queued g.B.Bus.view _ _ c.args.cookie w.in-Ok.ticket _ c.args.request c.len-client.ensures.value
          w.in-Ok.ensures.accepted w.in-Ok.ensures.machine w.push.ensures.items)
      | in-Err w ↦ rw (w.result-is, w.self-is, sym c.self.view_is)
          (refused g.B.Bus.view _ _ c.args.cookie _ c.args.request w.in-Err.refused c.len-client.ensures.value
          (ap (λ d. record { device = d; cookies = c.self.inside.cookies.items }) w.in-Err.ensures.refused)
          w.in-Err.ensures.machine)
    ]

pub returns-clause-once : goal.returns-clause-once
returns-clause-once g c =
    elim c.match-submit.branch [
      | in-Ok w ↦ rw (w.result-is, w.self-is, sym c.self.view_is)
          (queued_once _ _ c.args.cookie w.in-Ok.ticket _ c.args.request c.len-client.ensures.value
          w.in-Ok.ensures.accepted w.push.ensures.items c.self.invariant.numbered)
      | in-Err w ↦ rw (w.result-is, w.self-is, sym c.self.view_is)
          (refused_once _ _ c.args.cookie c.args.request w.in-Err.refused
          (ap (λ d. record { device = d; cookies = c.self.inside.cookies.items }) w.in-Err.ensures.refused))
    ]
