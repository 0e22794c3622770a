use Rattle.std.proofs.Common.{◌+◌, ◌<◌, ◌≡◌, ◌≤◌, false, true}
use Rattle.mmc_card.specs.Card.{IsCard}
use Rattle.mmc_frame.specs.declared.kind.Kind.TheVariants.{Mmc}
use Rattle.mmc_identify.proofs.LoopLemmas.{Asking}
use Rattle.mmc_identify.proofs.mmc.start.Given as goal

-- that a kept bus has a card is told by an exchange alone
abbrev pub invariant-loop-inquiries : goal.invariant-loop-inquiries
invariant-loop-inquiries g l =
    let old = g.B.Bus.view l.initial.bus in
    let now = g.B.Bus.view l.bus in
    (now.is_kept ≡ true → IsCard now.card → Asking false Mmc false 0 l._inquiries old now)
    × (0 < l._inquiries → now.is_kept ≡ true → IsCard now.card)
    × (now.exchanges ≤ old.exchanges + l._inquiries)
    × (now.lines ≡ old.lines)
