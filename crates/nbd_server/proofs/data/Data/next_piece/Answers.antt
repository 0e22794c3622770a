use Rattle.std.proofs.Common.{drop, subst, sym, take, ◌∙◌, ap}
use Rattle.nbd_server.specs.Data.{AreCut, joined}
use Rattle.nbd_server.proofs.DataLemmas.{cut_front}
use Rattle.nbd_server.proofs.data.Data.next_piece.Goals as goal

pub returns-clause-piece : goal.returns-clause-piece
returns-clause-piece c =
    let cut = subst AreCut c.in-Some.ensures.items c.self.invariant in
    (cut_front c.in-Some.piece _ cut).0 ∙ ap (take 8192) (ap joined (sym c.in-Some.ensures.items) ∙ c.self.view_is)

pub returns-clause-rest : goal.returns-clause-rest
returns-clause-rest c =
    let cut = subst AreCut c.in-Some.ensures.items c.self.invariant in
    (cut_front c.in-Some.piece _ cut).1 ∙ ap (drop 8192) (ap joined (sym c.in-Some.ensures.items) ∙ c.self.view_is)
