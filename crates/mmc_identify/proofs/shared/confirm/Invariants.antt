use Rattle.std.proofs.Common.{◌+◌, ◌<◌, ◌≡◌, ◌≤◌, true}
use Rattle.mmc_card.specs.Card.{IsCard}
use Rattle.mmc_identify.proofs.JoinLemmas.{IsAtWorkStill}
use Rattle.mmc_identify.proofs.shared.confirm.Given as goal

-- that a kept bus has a card is told by an exchange alone
abbrev pub invariant-loop-statuses : goal.invariant-loop-statuses
invariant-loop-statuses g l =
    let old = g.B.Bus.view l.initial.bus in
    let now = g.B.Bus.view l.bus in
    (now.is_kept ≡ true → IsCard now.card → IsAtWorkStill l.kind l.rca l._statuses old now)
    × (0 < l._statuses → now.is_kept ≡ true → IsCard now.card)
    × (now.exchanges ≤ old.exchanges + l._statuses)
    × (now.lines ≡ old.lines)
