-- Nothing is said of a card that is built, and something of one of which a register is refused.
use Rattle.std.proofs.Common.{Bool, List, [], ap, cond, false, refl, sym, true, ◌&&◌, ◌++◌, ◌∙◌, ◌∷◌, ◌≡◌, ℕ}
use Rattle.std.specs.Prelude.{Err, None, Ok, Result, Some, is_ok, not, ◌==◌}
use Rattle.std.proofs.lemmas.Bool.{and_from}
use Rattle.mmc_frame.proofs.Bytes.{and_true}
use Rattle.mmc_frame.specs.declared.kind.Kind.{Kind}
use Rattle.mmc_frame.specs.declared.kind.Kind.TheVariants as Is
use Rattle.mmc_regs.specs.Csd.{csd_from, csd_in, csd_of, has_block_length, sectors_of}
use Rattle.mmc_regs.specs.CsdFields.{csd_structure, read_bl_len, write_bl_len}
use Rattle.mmc_regs.specs.Register.{checked_number, register_number}
use Rattle.mmc_regs.specs.declared.csd.Csd.{Csd}
use Rattle.mmc_regs.specs.declared.csd.Csd.TheVariants.{V1, V2}
use Rattle.mmc_regs.specs.declared.fault.RegFault.{RegFault}
use Rattle.mmc_regs.specs.declared.fault.RegFault.TheVariants.{Check, Range, Structure}
use Rattle.mmc_ext_csd.specs.ExtCsd.{sec_count}
use Rattle.mmc_card.specs.Made.{or_none, user_sectors}
use Rattle.mmc_card_sim.specs.CardSpec.{each_register_is_taken, has_access_mode, has_cid, has_csd, has_early_bits, has_erase_unit}
use Rattle.mmc_card_sim.specs.CardSpec.{has_no_ready_bit, has_ocr, has_short_waits, has_user_sectors, image_is_taken_within, kind_is_taken}
use Rattle.mmc_card_sim.specs.CardSpec.{refusal_within, registers_are_taken, works_at_3_3_volts}
use Rattle.mmc_card_rows.specs.declared.store.TheConstants.{MAX_LARGE}
use Rattle.mmc_card_sim.specs.Registers.{ext_csd_of, kind_of, made_of}
use Rattle.mmc_card_rows.specs.declared.registers.KindRegisters.{KindRegisters}
use Rattle.mmc_card_rows.specs.declared.registers.KindRegisters.TheVariants.{Mmc, Sd}
use Rattle.mmc_card_rows.specs.declared.registers.Registers.{Registers}
use Rattle.mmc_card_sim.specs.declared.spec.BuildFault.TheVariants.{ImageSize, Register}
use Rattle.mmc_card_sim.specs.declared.spec.CardSpec.{CardSpec}
use Rattle.card_check.specs.Registers.{check_line, contradictions, csd_text, is_checked, kind_text}
use Rattle.card_check.specs.Registers.{has_sec_count, last_text, registers_text, sectors_by, sectors_by_text, sectors_line}
use Rattle.card_check.specs.Registers.{sectors_told, size_text, teller_words, unless}

-- Texts that are empty.

some : (x : ℕ) (xs : List ℕ) → x ∷ xs ≡ [] → ⊥
some x xs h = cc h

two_none : (xs ys : List ℕ) → xs ≡ [] → ys ≡ [] → xs ++ ys ≡ []
two_none xs ys p q = ap (λ (l : List ℕ). l ++ ys) p ∙ q

both_none : (xs ys : List ℕ) → xs ++ ys ≡ [] → (xs ≡ []) × (ys ≡ [])
both_none [] ys h = (refl, h)
both_none (x ∷ xs) ys h = absurd (some x (xs ++ ys) h)

unless_so : (b : Bool) (text : List ℕ) → b ≡ true → unless b text ≡ []
unless_so true text h = refl
unless_so false text h = cc h

so_unless : (b : Bool) (text : List ℕ) → (text ≡ [] → ⊥) → unless b text ≡ [] → b ≡ true
so_unless true text is h = refl
so_unless false text is h = absurd (is h)

check_some : (name register : List ℕ) → check_line name register ≡ [] → ⊥
unfolding last_text
check_some name register h = some _ _ h

sectors_some : (wanted : ℕ) (teller : List ℕ) (sectors : ℕ) → sectors_line wanted teller sectors ≡ [] → ⊥
unfolding sectors_line
sectors_some wanted teller sectors h = some _ _ h

-- A CID or CSD that its reader takes.

by_ok : {T E : Type 0} (b : Bool) (x : T) (y : E) → is_ok (cond b (Ok x) (Err y)) ≡ true → b ≡ true
by_ok true x y h = refl
by_ok false x y h = h

number_taken : (kind : Kind) (number : Result ℕ RegFault) → is_ok (csd_from kind number) ≡ true → is_ok number ≡ true
number_taken kind (Ok n) h = refl
number_taken kind (Err fault) h = h

checked_cid : (register : List ℕ) → is_checked register ≡ true → is_ok (checked_number register) ≡ true
checked_cid register h = ap (λ (b : Bool). is_ok (cond b (Ok (register_number register)) (Err Check))) h

checked_csd : (kind : Kind) (csd : List ℕ) → is_checked csd ≡ true → csd_in kind csd ≡ csd_of kind (register_number csd)
checked_csd kind csd h = ap (λ (b : Bool). csd_from kind (cond b (Ok (register_number csd)) (Err Check))) h

csd_checked : (registers : Registers) → has_csd registers ≡ true → is_checked registers.csd ≡ true
csd_checked registers h = by_ok _ _ _ (number_taken (kind_of registers.kind) _ h)

read_silent : (r : Result Csd RegFault) → is_ok r ≡ true → csd_text r ≡ []
read_silent (Ok csd) h = refl
read_silent (Err fault) h = cc h

sd_read : (a b c : Bool) (x y : Csd)
    → csd_text (cond a (cond b (Ok x) (Err Range)) (cond c (Ok y) (Err Structure))) ≡ []
    → is_ok {E = RegFault} (cond a (cond b (Ok x) (Err Range)) (cond c (Ok y) (Err Structure))) ≡ true
sd_read true true c x y h = refl
sd_read true false c x y h = absurd (some _ _ h)
sd_read false b true x y h = refl
sd_read false b false x y h = absurd (some _ _ h)

silent_read : (kind : Kind) (number : ℕ) → csd_text (csd_of kind number) ≡ [] → is_ok (csd_of kind number) ≡ true
silent_read Is.Sd number h =
    sd_read (csd_structure number == 0) (has_block_length (read_bl_len number) && has_block_length (write_bl_len number))
    (csd_structure number == 1) (V1 number) (V2 number) h
silent_read Is.Mmc number h = refl

-- What a card has by its kind.

kind_silent : (kind : KindRegisters) (ocr : ℕ) → kind_is_taken kind ocr ≡ true → kind_text kind ocr ≡ []
kind_silent (Sd sd) ocr h = unless_so (not (sd.rca == 0)) _ h
kind_silent (Mmc mmc) ocr h =
    let each = and_true (has_access_mode ocr) (has_erase_unit mmc.ext_csd) h in
    two_none _ _ (unless_so _ _ each.0) (unless_so _ _ each.1)

silent_kind : (kind : KindRegisters) (ocr : ℕ) → kind_text kind ocr ≡ [] → kind_is_taken kind ocr ≡ true
silent_kind (Sd sd) ocr h = so_unless (not (sd.rca == 0)) _ (some _ _) h
silent_kind (Mmc mmc) ocr h =
    let each = both_none _ _ h in
    and_from _ _ (so_unless (has_access_mode ocr) _ (some _ _) each.0)
    (so_unless (has_erase_unit mmc.ext_csd) _ (some _ _) each.1)

-- The size of the user partition.

told_by : (b : Bool) (n : ℕ) (r : Result Csd RegFault) → is_ok r ≡ true
    → cond b (Some n) (sectors_by r) ≡ Some (cond b n (or_none sectors_of r))
told_by true n r h = refl
told_by false n (Ok csd) h = refl
told_by false n (Err fault) h = cc h

told : (registers : Registers) → has_csd registers ≡ true → sectors_told registers ≡ Some (user_sectors (made_of registers))
told registers h =
    let size = sec_count (ext_csd_of registers.kind) in
    told_by (has_sec_count registers) size _ h
    ∙ ap (λ (r : Result Csd RegFault). Some (cond (has_sec_count registers) size (or_none sectors_of r)))
    (checked_csd (kind_of registers.kind) registers.csd (csd_checked registers h))

-- All registers.

pub registers_silent : (spec : CardSpec) → registers_are_taken spec ≡ true → registers_text spec ≡ []
registers_silent spec h =
    let registers = spec.registers in
    let all = and_true (each_register_is_taken registers) _ h in
    let others = and_true (has_early_bits spec.early) _ (and_true (has_short_waits spec) _ all.1).1 in
    let cid = and_true (has_cid registers) _ all.0 in
    let csd = and_true (has_csd registers) _ cid.1 in
    let rest = and_true (has_ocr registers.ocr) _ csd.1 in
    let ocr = and_true (works_at_3_3_volts registers.ocr) _ rest.0 in
    two_none _ _ (unless_so (is_checked registers.cid) _ (by_ok _ _ _ cid.0))
    (two_none _ _ (unless_so (is_checked registers.csd) _ (csd_checked registers csd.0))
    (two_none _ _ (read_silent _ csd.0)
    (two_none _ _ (two_none _ _ (unless_so _ _ ocr.0) (unless_so _ _ ocr.1))
    (two_none _ _ (kind_silent registers.kind registers.ocr rest.1)
    (ap (sectors_by_text spec.sectors (teller_words registers)) (told registers csd.0) ∙ unless_so _ _ others.1)))))

pub silent_registers : (spec : CardSpec) → has_short_waits spec ≡ true → has_early_bits spec.early ≡ true
    → registers_text spec ≡ [] → registers_are_taken spec ≡ true
silent_registers spec short early h =
    let registers = spec.registers in
    let cid = both_none _ _ h in
    let csd = both_none _ _ cid.1 in
    let read = both_none _ _ csd.1 in
    let ocr = both_none _ _ read.1 in
    let kind = both_none _ _ ocr.1 in
    let window = both_none _ _ ocr.0 in
    let fits = so_unless (is_checked registers.csd) _ (check_some _ _) csd.0 in
    let same = checked_csd (kind_of registers.kind) registers.csd fits in
    let has_its_csd : has_csd registers ≡ true =
    ap is_ok same ∙ silent_read (kind_of registers.kind) _ (sym (ap csd_text same) ∙ read.0) in
    and_from _ _
    (and_from _ _ (checked_cid registers.cid (so_unless _ _ (check_some _ _) cid.0))
    (and_from _ _ has_its_csd
    (and_from _ _
    (and_from _ _ (so_unless (works_at_3_3_volts registers.ocr) _ (some _ _) window.0)
    (so_unless (has_no_ready_bit registers.ocr) _ (some _ _) window.1))
    (silent_kind registers.kind registers.ocr kind.0))))
    (and_from _ _ short
    (and_from _ _ early
    (so_unless (has_user_sectors (user_sectors (made_of registers)) spec.sectors) _ (sectors_some _ _ _)
    (sym (ap (sectors_by_text spec.sectors (teller_words registers)) (told registers has_its_csd)) ∙ kind.1))))

-- With the size.

by_none : (b c : Bool) → cond b (cond c None (Some ImageSize)) (Some Register) ≡ None → b ≡ true
by_none true c h = refl
by_none false c h = cc h

fits : (b c : Bool) → b ≡ true → size_text (cond b (cond c None (Some ImageSize)) (Some Register)) ≡ []
    → cond b (cond c None (Some ImageSize)) (Some Register) ≡ None
fits true true is h = refl
fits true false is h = absurd (some _ _ h)
fits false c is h = cc is

pub silent : (spec : CardSpec) → refusal_within MAX_LARGE spec ≡ None → contradictions spec ≡ []
silent spec h =
    two_none _ _ (registers_silent spec (by_none (registers_are_taken spec) (image_is_taken_within MAX_LARGE spec) h)) (ap size_text h)

pub spoken : (spec : CardSpec) → has_short_waits spec ≡ true → has_early_bits spec.early ≡ true
    → contradictions spec ≡ [] → refusal_within MAX_LARGE spec ≡ None
spoken spec short early h =
    let each = both_none (registers_text spec) _ h in
    fits (registers_are_taken spec) (image_is_taken_within MAX_LARGE spec) (silent_registers spec short early each.0) each.1
