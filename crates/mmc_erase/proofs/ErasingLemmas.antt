-- What CMD38 erases: just the sectors of the run.
use Rattle.std.proofs.Common.{ap₂, ◌%◌, ◌&&◌, ◌||◌, ◌*◌, ◌+◌, ◌-◌, ◌/◌, ◌<◌, ◌∙◌, ◌≡◌, ◌≤◌, ◌⊎◌, Bool, ap, arith, false, inl, inr, length, refl}
use Rattle.std.proofs.Common.{subst, suc, sym, true, zero, ℕ}
use Rattle.std.specs.Prelude.{◌==◌, if◌then◌else◌, min, replicate}
use Rattle.std.proofs.lemmas.Bool.{eqb-true}
use Rattle.std.proofs.lemmas.Nat.{div-mul-add}
use Rattle.std.proofs.Math.Nat.{lt-div-mul-add, mod-add-div'}
use Rattle.mmc_frame.specs.declared.kind.Kind.{Kind}
use Rattle.mmc_frame.specs.declared.kind.Kind.TheVariants.{Mmc, Sd}
use Rattle.mmc_card.specs.BusView.{BusView}
use Rattle.mmc_card.specs.Card.{stored}
use Rattle.mmc_card.specs.Made.{Made, erase_unit_of_card, is_mmc, is_sd, sector_at}
use Rattle.mmc_card.specs.declared.part.Part.{Part}
use Rattle.mmc_card.specs.RowsErase.{erased_from, erased_to, erasing, is_trim}
use Rattle.mmc_card.specs.Sectors.{Change}
use Rattle.mmc_switch.proofs.AddressLemmas.{sector_named}
use Rattle.mmc_switch.specs.Info.{trims_of}
use Rattle.mmc_switch.specs.Place.{Knows}
use Rattle.mmc_switch.specs.declared.info.Info.{Info}
use Rattle.mmc_switch.specs.UnderWay.{part_of, room_of}
use Rattle.mmc_erase.specs.Commands.{argument_of}
use Rattle.mmc_erase.specs.Job.{are_units, suits}
use Rattle.mmc_erase.specs.Running.{change_of, first_of, last_of}
use Rattle.mmc_erase.specs.declared.how.How.{How}
use Rattle.mmc_erase.specs.declared.how.How.TheVariants.{Erase, Trim}
use Rattle.mmc_erase.specs.declared.job.Job.{Job}

-- Units.

and_parts : (a b : Bool) → (a && b) ≡ true → (a ≡ true) × (b ≡ true)
and_parts true b h = (refl, h)
and_parts false b h = cc

or_parts : (a b : Bool) → (a || b) ≡ true → (a ≡ true) ⊎ (b ≡ true)
or_parts true b h = inl refl
or_parts false b h = inr h

-- a multiple of the unit
whole : (n unit : ℕ) → n % unit ≡ 0 → n / unit * unit ≡ n
whole n unit none = let all = mod-add-div' n unit in omega (arith, all, none)

-- the unit that ends there
ends_unit : (unit q last end : ℕ) → 1 ≤ unit → last + 1 ≡ end → end ≡ q * unit → (last / unit + 1) * unit ≡ end
ends_unit unit zero last end some next is = absurd (omega (arith, next, is))
ends_unit unit (suc p) last end some next is =
    let split : last ≡ p * unit + (unit - 1) = omega (arith, next, is, some) in
    let place : last / unit ≡ p =
    ap (λ n. n / unit) split ∙ div-mul-add p unit (unit - 1) (omega (arith, some)) in
    let ends : (last / unit + 1) * unit ≡ (p + 1) * unit = ap (λ n. (n + 1) * unit) place in
    omega (arith, ends, is)

-- as far as the partition goes
end_by : (unit room first count last : ℕ) → 1 ≤ unit → 1 ≤ count → first + count ≤ room → last + 1 ≡ first + count
    → (((first + count) % unit == 0) ≡ true) ⊎ ((first + count == room) ≡ true)
    → min ((last / unit + 1) * unit) room ≡ first + count
end_by unit room first count last some more inside next (inl units) =
    let end = ends_unit unit ((first + count) / unit) last (first + count) some next
    (sym (whole (first + count) unit (eqb-true ((first + count) % unit) 0 units))) in
    omega (arith, end, inside)
end_by unit room first count last some more inside next (inr all) =
    let is : first + count ≡ room = eqb-true (first + count) room all in
    let past : last < last / unit * unit + unit = lt-div-mul-add some in
    let next_unit : (last / unit + 1) * unit ≡ last / unit * unit + unit = omega arith in
    omega (arith, is, past, next, next_unit)

-- A trim is one on a card that trims.

trims_by : (kind : Kind) (argument : ℕ) (b : Bool) → (if is_sd kind then false else b) ≡ true → argument ≡ 1
    → (is_mmc kind && (argument == 1)) ≡ true
trims_by Sd argument b knows is = cc
trims_by Mmc argument b knows is = rw is refl

erases_by : (kind : Kind) (argument : ℕ) → argument ≡ 0 → (is_mmc kind && (argument == 1)) ≡ false
erases_by Sd argument is = refl
erases_by Mmc argument is = rw is refl

-- The range by its ends.

-- from the first sector to the last one, and no further
record IsRange (made : Made) (trims : Bool) (room first count last : ℕ) : Type 0 where
  from_is : erased_from made trims first ≡ first
  count_is : erased_to made trims room last - erased_from made trims first ≡ count

trimmed : (made : Made) (room first count last : ℕ) → last + 1 ≡ first + count → IsRange made true room first count last
trimmed made room first count last next = record { from_is = refl; count_is = omega (arith, next) }

by_units : (made : Made) (unit room first count last : ℕ) → unit ≡ erase_unit_of_card made → 1 ≤ unit → 1 ≤ count
    → first + count ≤ room → last + 1 ≡ first + count → are_units unit room first count ≡ true
    → IsRange made false room first count last
by_units made unit room first count last is some more inside next units =
    let both = and_parts (first % unit == 0) (((first + count) % unit == 0) || (first + count == room)) units in
    let begins : first / unit * unit ≡ first = whole first unit (eqb-true (first % unit) 0 both.0) in
    let ends = end_by unit room first count last some more inside next
    (or_parts ((first + count) % unit == 0) (first + count == room) both.1) in
    let from_unit : first / erase_unit_of_card made * erase_unit_of_card made ≡ first = rw (← is) begins in
    let to_unit : min ((last / erase_unit_of_card made + 1) * erase_unit_of_card made) room ≡ first + count =
    rw (← is) ends in
    record { from_is = from_unit; count_is = omega (arith, from_unit, to_unit) }

-- it trims, or it erases by units
range : (how : How) (made : Made) (info : Info) (trims : Bool) (room first count last : ℕ)
    → trims ≡ (is_mmc made.kind && (argument_of how == 1)) → (info.trims ≡ true → trims_of made ≡ true)
    → info.erase_unit ≡ erase_unit_of_card made → 1 ≤ info.erase_unit → 1 ≤ count → first + count ≤ room
    → last + 1 ≡ first + count → suits how info room first count ≡ true → IsRange made trims room first count last
range Erase made info trims room first count last is knows unit some more inside next suited =
    subst (λ b. IsRange made b room first count last) (sym (is ∙ erases_by made.kind 0 refl))
    (by_units made info.erase_unit room first count last unit some more inside next suited)
range Trim made info trims room first count last is knows unit some more inside next suited =
    subst (λ b. IsRange made b room first count last) (sym (is ∙ trims_by made.kind 1 _ (knows suited) refl))
    (trimmed made room first count last next)

abbrev change_to : Part → ℕ → ℕ → ℕ → Change
change_to part start n byte = record { part = part; start = start; values = replicate n (replicate 512 byte) }

same_change : (part other : Part) (start begin n count : ℕ) (byte given : ℕ) → part ≡ other → start ≡ begin → n ≡ count
    → byte ≡ given
    → change_to part start n byte ≡ change_to other begin count given
same_change part other start begin n count byte given p s m b =
    ap₂ (λ part start. change_to part start n byte) p s ∙ ap₂ (λ n byte. change_to other begin n byte) m b

pub erasing_is : (job : Job) (view : BusView) → Knows job.session view → view.card.part ≡ part_of job.session
    → length (stored view.card view.card.part) ≡ room_of job.session
    → erasing view.card (is_trim view.card (argument_of job.how)) (first_of job) (last_of job) ≡ change_of job
erasing_is job view knows part size =
    let card = view.card in
    let info = job.session.info in
    let some = job.some in
    let more = job.inside in
    let first : sector_at card.made (first_of job) ≡ job.start = sector_named job.session view knows job.start in
    let last : sector_at card.made (last_of job) ≡ job.start + job.count - 1 =
    sector_named job.session view knows (job.start + job.count - 1) in
    let r = range job.how card.made info (is_trim card (argument_of job.how)) (length (stored card card.part))
    (sector_at card.made (first_of job)) job.count (sector_at card.made (last_of job)) refl knows.info.trims
    knows.info.erase_unit info.some_unit some (omega (arith, first, more, size)) (omega (arith, first, last, some))
    (rw (first, size) job.suits) in
    same_change card.part (part_of job.session) _ job.start _ job.count _ info.erased_byte part (r.from_is ∙ first)
    r.count_is (sym knows.info.erased_byte)
