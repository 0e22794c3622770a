-- An address names its sector.
use Rattle.std.proofs.Common.{◌%◌, ◌&&◌, ◌*◌, ◌/◌, ◌≡◌, Bool, arith, false, not, refl, true, ℕ}
use Rattle.std.specs.Prelude.{◌==◌, if◌then◌else◌}
use Rattle.mmc_frame.specs.declared.addressing.Addressing.{Addressing}
use Rattle.mmc_frame.specs.declared.addressing.Addressing.TheVariants.{Bytes, Sectors}
use Rattle.mmc_card.specs.BusView.{BusView}
use Rattle.mmc_card.specs.Made.{has_sector_addresses, is_misaligned, sector_at}
use Rattle.mmc_switch.specs.Address.{address_of}
use Rattle.mmc_switch.specs.Place.{Knows}
use Rattle.mmc_switch.specs.declared.session.Session.{Session}

sector_by : (b : Bool) (addressing : Addressing) (start : ℕ) → addressing ≡ (if b then Sectors else Bytes)
    → (if b then address_of addressing start else address_of addressing start / 512) ≡ start
sector_by true addressing start is = rw is refl
sector_by false addressing start is = rw is (omega arith)

aligned_by : (b : Bool) (addressing : Addressing) (start : ℕ) → addressing ≡ (if b then Sectors else Bytes)
    → (not b && not (address_of addressing start % 512 == 0)) ≡ false
aligned_by true addressing start is = refl
aligned_by false addressing start is =
    let whole : 512 * start % 512 ≡ 0 = omega arith in rw is (rw whole refl)

pub sector_named : (session : Session) (view : BusView) → Knows session view → (sector : ℕ)
    → sector_at view.card.made (address_of session.info.addressing sector) ≡ sector
sector_named session view knows sector =
    sector_by (has_sector_addresses view.card.made) session.info.addressing sector knows.info.addressing

pub address_aligned : (session : Session) (view : BusView) → Knows session view → (sector : ℕ)
    → is_misaligned view.card.made (address_of session.info.addressing sector) ≡ false
address_aligned session view knows sector =
    aligned_by (has_sector_addresses view.card.made) session.info.addressing sector knows.info.addressing
