use Rattle.std.proofs.Common.{[], ◌+◌, ◌<◌, arith, drop, length, suc, take}
use Rattle.std.specs.Prelude.{slice_index_or}
use Rattle.text_out.proofs.WritingLemmas.{writes_broken}
use Rattle.mmc_card.specs.Card.{stored}
use Rattle.card_served.specs.Saved.{bytes_of}
use Rattle.card_served.proofs.SavedLemmas.{bytes_at, sector_next}
use Rattle.card_served.proofs.saving.save_part.Goals as goal

pub returns-in_err-save_sector : goal.returns-in_err-save_sector
returns-in_err-save_sector g c =
    let sectors = stored c.args.card.now.card c.args.part in
    let i = c.loop-i.i in
    let less : i < length sectors = omega arith in
    writes_broken _ _ _ _ (bytes_of (take i sectors)) (slice_index_or sectors i []) (bytes_of (drop (suc i) sectors)) _
    c.from_residual.ensures.0 (bytes_at sectors i less) c.loop-i.invariant c.in_err-save_sector.ensures

pub loop-i-preserved : goal.loop-i-preserved
loop-i-preserved g c =
    let sectors = stored c.args.card.now.card c.args.part in
    let i = c.loop-i.i in
    let less : i < length sectors = omega arith in
    sector_next _ _ _ sectors i (i + 1) (omega arith) less c.loop-i.invariant c.in_ok-save_sector.ensures
