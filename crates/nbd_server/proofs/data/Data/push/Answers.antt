use Rattle.std.proofs.Common.{length, subst, sym, ◌%◌, ◌<◌, ◌≡◌, ◌≤◌}
use Rattle.std.specs.Result.{is_ok}
use Rattle.nbd_server.proofs.DataLemmas.{cut_after}
use Rattle.nbd_server.proofs.data.Data.push.Goals as goal

pub invariant_of-self : goal.invariant_of-self
invariant_of-self c =
    cut_after (is_ok c.push_back.result) _ _ c.new.result c.push_back.ensures.items c.self.invariant
    (subst (λ bytes. length bytes % 8192 ≡ 0) (sym c.self.view_is) c.requires.whole)
    (subst (λ bytes. 0 < length bytes) (sym c.new.ensures) c.requires.some)
    (subst (λ bytes. length bytes ≤ 8192) (sym c.new.ensures) c.requires.few)
