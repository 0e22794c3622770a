-- What is under way between two commands is lost: one block of data at most, which tells nothing of sectors.
use Rattle.std.proofs.Common.{◌≡◌, ◌∙◌, List, None, Option, [], ap, arith, false, inl, inr, length, refl, subst, sym, ℕ}
use Rattle.std.specs.Prelude.{◌∷◌, ◌⊎◌}
use Rattle.mmc_card.specs.BusView.{BusView}
use Rattle.mmc_card.specs.Card.{holds}
use Rattle.mmc_card.specs.Faults.{ReadStep, WriteStep}
use Rattle.mmc_card.specs.Laws.{Carried, CountsAtMost, IsNextWritten, StillStands, WithinOrAccepted}
use Rattle.mmc_card.specs.Sectors.{IsIn, Sector, Within}
use Rattle.mmc_card.specs.declared.exchange.DataIn.{DataIn}
use Rattle.mmc_card.specs.declared.exchange.DataIn.TheVariants as Came
use Rattle.mmc_card.specs.declared.exchange.DataOut.{DataOut}
use Rattle.mmc_card.specs.declared.exchange.DataOut.TheVariants as Went
use Rattle.mmc_card.specs.declared.part.Part.{Part}
use Rattle.mmc_bus.specs.Exchanges.{Kept}
use Rattle.mmc_host.specs.declared.data.Data.{Data}
use Rattle.mmc_sdhci.specs.Accesses.{IsAtRest}
use Rattle.mmc_sdhci.specs.CommandLooks.{Dropped}
use Rattle.mmc_sdhci.specs.Commands.{LosesAll}
use Rattle.mmc_sdhci.specs.Controller.{ControllerView, Running, Settled, seen}
use Rattle.mmc_sdhci.specs.DataLooks.{DataDropped, cleared, is_empty}
use Rattle.mmc_sdhci.specs.Driver.{IsLost}
use Rattle.mmc_sdhci.specs.Lending.{unlent}
use Rattle.mmc_sdhci.proofs.Blocks.{by_port, clear_at_rest}
use Rattle.std.proofs.lemmas.Bool.{false≢true}

-- nothing is lost
pub none_lost : (v : ControllerView) → IsLost v v
none_lost v = record {
  carried = record { made = refl; sizes = λ part. refl };
  narrows = λ part sector value is. is;
  is_card = λ is. is;
  stands = λ setting is. is;
  later = omega arith;
  built = refl;
}

pub cleared_lost : (v : ControllerView) → IsLost v (cleared v)
cleared_lost v = record {
  carried = record { made = refl; sizes = λ part. refl };
  narrows = λ part sector value is. is;
  is_card = λ is. is;
  stands = λ setting is. is;
  later = omega arith;
  built = refl;
}

-- no list is itself with something before it
longer : (value : Sector) → (value ≡ 0 ∷ value) → ⊥
longer value is = let long = ap length is in omega (arith, long)

module _ (carried_read : (old new : BusView) (size : ℕ) (got : DataIn) (block : Sector) → ReadStep old size got block new → Carried old.card new.card)
    (carried_write : (old new : BusView) (block : Sector) (got : DataOut) → WriteStep old block got new → Carried old.card new.card)
    (narrows_read : (old new : BusView) (size : ℕ) (got : DataIn) (block : Sector) → ReadStep old size got block new → Within (holds new.card) (holds old.card))
    (narrows_write : (old new : BusView) (block : Sector) (got : DataOut) → WriteStep old block got new → WithinOrAccepted old.card block new.card)
    (stands_read : (old new : BusView) (size : ℕ) (got : DataIn) (block : Sector) → ReadStep old size got block new → StillStands old.card new.card)
    (stands_write : (old new : BusView) (block : Sector) (got : DataOut) → WriteStep old block got new → StillStands old.card new.card)
    (counts_read : (old new : BusView) (size : ℕ) (got : DataIn) (block : Sector) → ReadStep old size got block new → CountsAtMost 1 old new)
    (counts_write : (old new : BusView) (block : Sector) (got : DataOut) → WriteStep old block got new → CountsAtMost 2 old new) where
  -- a block that didn't come
  unread : (old new : ControllerView) (size : ℕ) → ((block : List ℕ) → Kept (seen old) (ReadStep (seen old) size Came.Nothing block (seen new)) (seen new))
      → new.built ≡ old.built → IsLost old new
  unread old new size steps built =
      let step = (steps []).step in
      record {
        carried = carried_read (seen old) (seen new) size Came.Nothing [] step;
        narrows = narrows_read (seen old) (seen new) size Came.Nothing [] step;
        is_card = λ was. (steps []).is_card;
        stands = stands_read (seen old) (seen new) size Came.Nothing [] step;
        later = (counts_read (seen old) (seen new) size Came.Nothing [] step).0;
        built = built;
      }

  old_value : (old new : ControllerView) (part : Part) (sector : ℕ) (value : Sector)
      → IsIn (holds old.card part sector) value ⊎ IsNextWritten old.card part sector (0 ∷ value) value
      → IsIn (holds old.card part sector) value
  old_value old new part sector value (inl is) = is
  old_value old new part sector value (inr next) = absurd (longer value next.offered)

  -- a block that didn't go, whichever it was
  unwritten : (old new : ControllerView) → ((block : List ℕ) → Kept (seen old) (WriteStep (seen old) block Went.Nothing (seen new)) (seen new))
      → new.built ≡ old.built → IsLost old new
  unwritten old new steps built =
      let step = (steps []).step in
      record {
        carried = carried_write (seen old) (seen new) [] Went.Nothing step;
        narrows = λ part sector value is.
            old_value old new part sector value
            (narrows_write (seen old) (seen new) (0 ∷ value) Went.Nothing (steps (0 ∷ value)).step part sector value is);
        is_card = λ was. (steps []).is_card;
        stands = stands_write (seen old) (seen new) [] Went.Nothing step;
        later = (counts_write (seen old) (seen new) [] Went.Nothing step).0;
        built = built;
      }

  by_data : (old new : ControllerView) (transfer : Data) → old.outgoing ≡ [] → DataDropped old transfer new → IsLost old new
  by_data old new Data.Nothing none dropped = subst (λ (v : ControllerView). IsLost old v) (sym dropped) (cleared_lost old)
  by_data old new (Data.Read size blocks) none dropped =
      unread old new size dropped.0 (ap (λ (v : ControllerView). v.built) dropped.1)
  by_data old new (Data.Write blocks) none dropped =
      unwritten old new (λ block. dropped.0 block (λ some. absurd (false≢true (sym some ∙ ap is_empty none))))
      (ap (λ (v : ControllerView). v.built) dropped.1)

  pub lost_all : (v0 v1 : ControllerView) → IsAtRest v0 → LosesAll v0 v1 → Settled v0 (IsLost v0 v1) v1
  lost_all v0 v1 rests loses kept =
      let mid = loses.0 in
      let d = loses.2 kept in
      let l = loses.1 d.0 in
      let clear = clear_at_rest v0 (rests l.0) in
      let is : mid ≡ record v0 { resetting = None; is_stuck = false } =
      subst (λ (r : Option Running). Dropped v0 r mid) clear.0.running l.1 in
      let still : mid.dma.is_moving ≡ false = ap (λ (v : ControllerView). v.dma.is_moving) is ∙ clear.0.moving in
      let lost = by_data mid v1 mid.transfer (ap (λ (v : ControllerView). v.outgoing) is ∙ clear.1) (by_port mid v1 still d.1) in
      let over = subst (λ (v : ControllerView). IsLost v v1) is lost in (
        l.0,
        record {
          carried = over.carried;
          narrows = over.narrows;
          is_card = over.is_card;
          stands = over.stands;
          later = over.later;
          built = over.built;
        },
      )

-- what is lent is taken back then
pub lost_unlent : (v0 v1 v2 : ControllerView) → Settled v0 (IsLost v0 v1) v1 → Settled v1 (v2 ≡ unlent v1) v2
    → Settled v0 (IsLost v0 v2) v2
lost_unlent v0 v1 v2 loses back kept =
    let b = back kept in
    let l = loses b.0 in
    let lost = l.1 in (
      l.0,
      subst (λ (v : ControllerView). IsLost v0 v) (sym b.1)
          (record {
            carried = lost.carried;
            narrows = lost.narrows;
            is_card = lost.is_card;
            stands = lost.stands;
            later = lost.later;
            built = lost.built;
          }),
    )
