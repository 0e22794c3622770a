-- What the registers of a card tell, and how identification ends.
use Rattle.std.proofs.Common.{◌+◌, ◌<◌, ◌∙◌, ◌≡◌, ◌^◌, Bool, ap, arith, false, inl, inr, refl, subst, sym, true, ℕ}
use Rattle.std.proofs.lemmas.Bool.{eqb-true}
use Rattle.std.proofs.lemmas.Result.{IfOk-from_err}
use Rattle.std.specs.Prelude.{◌==◌, Err, IfOk, IsErr, IsOk, Ok, Result, if◌then◌else◌}
use Rattle.mmc_frame.specs.declared.addressing.Addressing.{Addressing}
use Rattle.mmc_frame.specs.declared.addressing.Addressing.TheVariants.{Bytes, Sectors}
use Rattle.mmc_frame.specs.declared.kind.Kind.{Kind}
use Rattle.mmc_frame.specs.declared.kind.Kind.TheVariants as Is
use Rattle.mmc_regs.specs.Csd.{csd_in}
use Rattle.mmc_regs.specs.Ocr.{access_mode, card_capacity_status}
use Rattle.mmc_regs.specs.Register.{checked_number, register_number}
use Rattle.mmc_regs.specs.declared.csd.Csd.{Csd}
use Rattle.mmc_regs.specs.declared.csd.Csd.TheVariants.{Mmc, V1, V2}
use Rattle.mmc_regs.specs.declared.fault.RegFault.{RegFault}
use Rattle.mmc_card.specs.BusView.{BusView}
use Rattle.mmc_card.proofs.ToldLemmas.{told_profile, told_registers}
use Rattle.mmc_card.specs.Made.{HasRegisters, Made, addressing_of, as_told, csd_number_of}
use Rattle.mmc_card.specs.Profile.{InProfile, IsHighCapacity, IsStandardCapacity}
use Rattle.mmc_bus.specs.Work.{Moved}
use Rattle.mmc_bus.proofs.WorkLemmas.{both, fell, moved_as, refuted}
use Rattle.mmc_identify.proofs.JoinLemmas.{Begins, IsRegistered, Takes}
use Rattle.mmc_identify.specs.Judged as judged
use Rattle.mmc_identify.specs.Stages.{HasTold, IsFound, IsLeft, IsRcaOf, ready_ocr}
use Rattle.mmc_identify.specs.declared.fault.IdentFault.{IdentFault}
use Rattle.mmc_identify.specs.declared.found.Found.{Found}
use Rattle.mmc_identify.specs.declared.identification.Registers.{Registers}

-- Addressing: bit 31, which says that the card is ready, is no part of it.

capacity_kept : (ocr : ℕ) → ocr < 2 ^ 31 → card_capacity_status (2 ^ 31 + ocr) ≡ card_capacity_status ocr
capacity_kept ocr below = omega (arith, below)

mode_kept : (ocr : ℕ) → ocr < 2 ^ 31 → access_mode (2 ^ 31 + ocr) ≡ access_mode ocr
mode_kept ocr below = omega (arith, below)

sd_told : (csd : Csd) (ocr : ℕ) (high : Bool) (addressing : Addressing) → (card_capacity_status ocr == 1) ≡ high
    → judged.sd_addressing ocr csd ≡ Ok addressing → addressing ≡ (if high then Sectors else Bytes)
sd_told (V1 csd) ocr true addressing e h = cc (e, h)
sd_told (V1 csd) ocr false addressing e h = cc (e, h)
sd_told (V2 csd) ocr true addressing e h = cc (e, h)
sd_told (V2 csd) ocr false addressing e h = cc (e, h)
sd_told (Mmc csd) ocr high addressing e h = cc h

mmc_told : (csd : Csd) (ocr : ℕ) (zero two block : Bool) (addressing : Addressing) → (access_mode ocr == 0) ≡ zero
    → (access_mode ocr == 2) ≡ two → judged.has_block_length_in csd ≡ block
    → judged.mmc_addressing ocr csd ≡ Ok addressing → addressing ≡ (if two then Sectors else Bytes)
mmc_told csd ocr true true block addressing z t b h = cc (eqb-true (access_mode ocr) 0 z, t)
mmc_told csd ocr true false true addressing z t b h = cc (z, b, h)
mmc_told csd ocr true false false addressing z t b h = cc (z, b, h)
mmc_told csd ocr false true block addressing z t b h = cc (z, t, h)
mmc_told csd ocr false false block addressing z t b h = cc (z, t, h)

addressing_by : (kind : Kind) (made : Made) (csd : Csd) (addressing : Addressing) → made.ocr < 2 ^ 31 → made.kind ≡ kind
    → judged.addressing kind (ready_ocr made) csd ≡ Ok addressing → addressing ≡ addressing_of made
addressing_by Is.Sd made csd addressing below is h =
    sd_told csd (ready_ocr made) _ addressing refl h
    ∙ ap (λ n. if n == 1 then Sectors else Bytes) (capacity_kept made.ocr below) ∙ rw is refl
addressing_by Is.Mmc made csd addressing below is h =
    mmc_told csd (ready_ocr made) _ _ _ addressing refl refl refl h
    ∙ ap (λ n. if n == 2 then Sectors else Bytes) (mode_kept made.ocr below) ∙ rw is refl

-- The registers.

cid_taken : (made : Made) → HasRegisters made → checked_number made.cid ≡ Ok (register_number made.cid)
cid_taken made registers = rw registers.cid_check (rw registers.cid_end refl)

-- what was found by the card's own registers, under this RCA
abbrev own_found : ℕ → Made → Result Found IdentFault
own_found rca made = judged.found made.kind (ready_ocr made) rca made.cid made.csd

-- what was found, of a card with these registers
record IsFoundOf (rca : ℕ) (made : Made) (found : Found) : Type 0 where
  kind : found.kind ≡ made.kind
  addressing : found.addressing ≡ addressing_of made
  goes : IsRcaOf made found.rca
  cid : found.cid ≡ register_number made.cid
  csd : csd_in made.kind made.csd ≡ Ok found.csd
  is_rca : found.rca ≡ rca

with_own : (rca : ℕ) (made : Made) (csd : Csd) (by : Result Addressing IdentFault) (found : Found) → HasRegisters made
    → IsRcaOf made rca
    → csd_in made.kind made.csd ≡ Ok csd → judged.addressing made.kind (ready_ocr made) csd ≡ by
    → judged.found_with made.kind rca (register_number made.cid) csd by ≡ Ok found → IsFoundOf rca made found
with_own rca made csd (Ok addressing) found registers goes sound e h =
    let is : record {
      kind = made.kind;
      addressing = addressing;
      rca = rca;
      cid = register_number made.cid;
      csd = csd;
    } ≡ found = cc h in
    subst (IsFoundOf rca made) is (record {
      kind = refl;
      addressing = addressing_by made.kind made csd addressing registers.ocr refl e;
      goes = goes;
      cid = refl;
      csd = sound;
      is_rca = refl;
    })
with_own rca made csd (Err fault) found registers goes sound e h = cc h

parts_own : (rca : ℕ) (made : Made) (csd : Result Csd RegFault) (found : Found) → HasRegisters made → IsRcaOf made rca
    → csd_in made.kind made.csd ≡ csd
    → judged.found_by made.kind (ready_ocr made) rca (Ok (register_number made.cid)) csd ≡ Ok found
    → IsFoundOf rca made found
parts_own rca made (Ok csd) found registers goes e h = with_own rca made csd _ found registers goes e refl h
parts_own rca made (Err fault) found registers goes e h = cc h

found_is : (rca : ℕ) (made : Made) (found : Found) → HasRegisters made → IsRcaOf made rca
    → own_found rca made ≡ Ok found → IsFoundOf rca made found
found_is rca made found registers goes h =
    parts_own rca made (csd_in made.kind made.csd) found registers goes refl (rw (cid_taken made registers) at h)

found_own : (rca : ℕ) (made : Made) (r : Result Found IdentFault) → HasRegisters made → IsRcaOf made rca
    → r ≡ own_found rca made → IfOk r (IsFoundOf rca made)
found_own rca made (Ok found) registers goes e = found_is rca made found registers goes (sym e)
found_own rca made (Err fault) registers goes e = tt

-- The registers of a card in profile are taken, and their addressing is one.

abbrev pub StandardTaken : Type 0
StandardTaken =
    (made : Made) → HasRegisters made → IsStandardCapacity made → csd_in Is.Sd made.csd ≡ Ok (V1 (csd_number_of made))

abbrev pub HighTaken : Type 0
HighTaken =
    (made : Made) → HasRegisters made → IsHighCapacity made → csd_in Is.Sd made.csd ≡ Ok (V2 (csd_number_of made))

abbrev pub MmcTaken : Type 0
MmcTaken = (made : Made) → HasRegisters made → csd_in Is.Mmc made.csd ≡ Ok (Mmc (csd_number_of made))

-- with this CSD something is found
found_with_csd : (kind : Kind) (rca : ℕ) (made : Made) (csd : Csd) (addressing : Addressing) → HasRegisters made
    → made.kind ≡ kind → csd_in kind made.csd ≡ Ok csd → judged.addressing kind (ready_ocr made) csd ≡ Ok addressing
    → IsOk (own_found rca made)
found_with_csd kind rca made csd addressing registers is taken e =
    rw is (rw (cid_taken made registers) (rw taken (rw e refl)))

found_sd : (rca : ℕ) (made : Made) → HasRegisters made → InProfile made → StandardTaken → HighTaken → made.kind ≡ Is.Sd
    → IsOk (own_found rca made)
found_sd rca made registers profile standard high is =
    let kept = capacity_kept made.ocr registers.ocr in
    elim (profile.sd is).capacity [
      | inl low ↦ found_with_csd Is.Sd rca made (V1 (csd_number_of made)) Bytes registers is (standard made registers low)
          (rw (kept ∙ low.ccs) refl)
      | inr tall ↦ found_with_csd Is.Sd rca made (V2 (csd_number_of made)) Sectors registers is (high made registers tall)
          (rw (kept ∙ tall.ccs) refl)
    ]

found_mmc : (rca : ℕ) (made : Made) → HasRegisters made → InProfile made → MmcTaken → made.kind ≡ Is.Mmc
    → IsOk (own_found rca made)
found_mmc rca made registers profile mmc is =
    let kept = mode_kept made.ocr registers.ocr in
    let csd = Mmc (csd_number_of made) in
    elim (profile.mmc is).addresses [
      | inl bytes ↦ found_with_csd Is.Mmc rca made csd Bytes registers is (mmc made registers)
          (rw (kept ∙ bytes.mode) (rw bytes.read_length refl))
      | inr sectors ↦ found_with_csd Is.Mmc rca made csd Sectors registers is (mmc made registers)
          (rw (kept ∙ sectors.mode) refl)
    ]

found_by_kind : (kind : Kind) (rca : ℕ) (made : Made) → HasRegisters made → InProfile made → StandardTaken → HighTaken
    → MmcTaken → made.kind ≡ kind → IsOk (own_found rca made)
found_by_kind Is.Sd rca made registers profile standard high mmc is =
    found_sd rca made registers profile standard high is
found_by_kind Is.Mmc rca made registers profile standard high mmc is = found_mmc rca made registers profile mmc is

-- From anywhere to tran.

abbrev pub Identifies : Result Found IdentFault → BusView → BusView → Type 0
Identifies r a b =
    Moved (λ old new. IfOk r (λ found. IsFound old.card.made found × IsLeft found.rca new.card))
    (λ old new. InProfile old.card.made → IsOk r) a b

pub register_fails : (kind : Kind) (ocr : ℕ) (fault : IdentFault) (r : Result Found IdentFault) (a b c : BusView)
    → IsErr r → Begins (Ok (kind, ocr)) a b → IsRegistered kind (Err fault) b c → Identifies r a c
register_fails kind ocr fault r a b c err p q =
    let pair = both a b c p q in
    let back = sym p.stays.carried.made in
    moved_as a c pair (IfOk-from_err r _ err)
    (λ same profile.
    let f = pair.fine same in
    let is = ap (λ (m : Made). m.kind) p.stays.carried.made ∙ sym p.own.0 in
    absurd (f.1 (subst InProfile back profile) is (f.0 profile).1))

-- what the judges are to judge
abbrev pub Came : Kind → ℕ → Registers → Result Unit IdentFault → BusView → BusView → Type 0
Came kind ocr registers r a b =
    Moved (λ old new. (kind ≡ old.card.made.kind) × (ocr ≡ ready_ocr old.card.made) × HasTold old.card.made registers
    × (IsOk r → IsLeft registers.rca new.card))
    (λ old new. InProfile old.card.made → IsOk r) a b

came : (kind : Kind) (ocr : ℕ) (registers : Registers) (r : Result Unit IdentFault) (a b c d : BusView)
    → Begins (Ok (kind, ocr)) a b → IsRegistered kind (Ok registers) b c → Takes kind registers.rca r c d
    → Came kind ocr registers r a d
came kind ocr registers r a b c d p q s =
    let pair = both a b c p q in
    let all = both a c d pair s in
    let made = p.stays.carried.made in
    let is = ap (λ (m : Made). m.kind) made ∙ sym p.own.0 in
    let told = q.own is in
    moved_as a d all (p.own.0, p.own.1, subst (λ m. HasTold m registers) made told, s.own)
    (λ same profile.
    let f = all.fine same in
    let named = f.0.1 (subst InProfile (sym made) profile) is (f.0.0 profile).1 in
    f.1 (subst InProfile (sym pair.stays.carried.made) profile)
    (ap (λ (m : Made). m.kind) pair.stays.carried.made ∙ sym p.own.0) named)

pub take_fails : (kind : Kind) (ocr : ℕ) (registers : Registers) (fault : IdentFault) (r : Result Found IdentFault)
    (a b c d : BusView) → IsErr r → Begins (Ok (kind, ocr)) a b → IsRegistered kind (Ok registers) b c
    → Takes kind registers.rca (Err fault) c d → Identifies r a d
take_fails kind ocr registers fault r a b c d err p q s =
    let all = came kind ocr registers (Err fault) a b c d p q s in
    moved_as a d all (IfOk-from_err r _ err) (λ same profile. cc (all.fine same profile))

found_and_left : (says : Bool) (made : Made) (r : Result Found IdentFault) (rca : ℕ) (d : BusView)
    → IfOk r (IsFoundOf rca (as_told says made)) → IsLeft rca d.card → IfOk r (λ found. IsFound made found × IsLeft found.rca d.card)
found_and_left says made (Ok found) rca d is left = (
  record { kind = is.kind; addressing = is.addressing; rca = is.goes; cid = is.cid; says = says; csd = is.csd },
  subst (λ n. IsLeft n d.card) (sym is.is_rca) left,
)
found_and_left says made (Err fault) rca d is left = tt

pub identified : (kind : Kind) (ocr : ℕ) (registers : Registers) (r : Result Found IdentFault) (a b c d : BusView)
    → r ≡ judged.found kind ocr registers.rca registers.cid registers.csd → StandardTaken → HighTaken → MmcTaken
    → Begins (Ok (kind, ocr)) a b → IsRegistered kind (Ok registers) b c → Takes kind registers.rca (Ok tt) c d
    → Identifies r a d
identified kind ocr registers r a b c d e standard high mmc p q s =
    let all = came kind ocr registers (Ok tt) a b c d p q s in
    let made = a.card.made in
    let told = all.own.2 in
    let own = all.was_card.registers in
    let says = told.csd.0 in
    let as_it_told = as_told says made in
    let takes = told_registers says made own in
    let is : r ≡ own_found registers.rca as_it_told = e ∙ cc (all.own.0, all.own.1, told.cid, told.csd.1) in
    moved_as a d all
    (found_and_left says made r registers.rca d (found_own registers.rca as_it_told r takes told.rca is) (all.own.3 refl))
    (λ same profile. subst IsOk (sym is)
    (found_by_kind made.kind registers.rca as_it_told takes (told_profile says made own profile) standard high mmc refl))

-- a card in profile is refused only where a fault fell
pub refused : (r : Result Found IdentFault) (a b : BusView) → Identifies r a b → InProfile a.card.made → IsErr r
    → a.faults < b.faults
refused r a b p profile err = fell a b p.stays (λ same. refuted r err (p.fine same profile))
