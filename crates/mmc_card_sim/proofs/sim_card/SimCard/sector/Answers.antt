use Rattle.std.proofs.Common.{[], ◌∙◌, ◌≡◌, List, ap, arith, length, ℕ}
use Rattle.std.proofs.lemmas.Bool.Decides.{nat_tests}
use Rattle.std.proofs.lemmas.Option.{slice_get-get_or, slice_get_past}
use Rattle.std.specs.Prelude.{None, Some, if◌then◌else◌, nat_lt, slice_get, slice_index_or}
use Rattle.mmc_card.specs.Card.{stored}
use Rattle.mmc_card.specs.Sectors.{Sector}
use Rattle.mmc_card_rows.specs.Store.{part_of}
use Rattle.mmc_card_sim.specs.SimView.{SimView}
use Rattle.mmc_card_sim.proofs.sim_card.SimCard.sector.Goals as goal

-- a sector, if there is one
got : (xs : List Sector) (i : ℕ)
    → (if nat_lt i (length xs) then Some (slice_index_or xs i []) else None) ≡ slice_get xs i
got xs i = grind (arith, nat_tests, slice_get-get_or, slice_get_past)

pub returns : goal.returns
returns c =
    c.sector.ensures ∙ got (part_of c.self.inside.chip.store c.args.part) c.args.sector
    ∙ ap (λ (sim : SimView). slice_get (stored sim.card c.args.part) c.args.sector) c.self.view_is
