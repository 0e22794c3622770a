-- What the registers of a card come to.
use Rattle.std.proofs.Common.{◌+◌, ◌<◌, ◌∙◌, ◌≡◌, ◌≢◌, ◌≤◌, ◌↔◌, Bool, List, ap, arith, cond, false, refl, subst, suc}
use Rattle.std.proofs.Common.{sym, true, ℕ}
use Rattle.std.proofs.lemmas.Bool.{le-leb, leb-true}
use Rattle.std.proofs.lemmas.Bool.Decides.{nat_tests}
use Rattle.std.proofs.lemmas.List.{get_or-set_other}
use Rattle.std.specs.Prelude.{◌&&◌, ◌*◌, ◌-◌, ◌==◌, Err, IsTrue, Ok, Result, if◌then◌else◌, nat_le, slice_index}
use Rattle.mmc_frame.specs.Field.{field}
use Rattle.mmc_frame.specs.declared.addressing.Addressing.{Addressing}
use Rattle.mmc_frame.specs.declared.addressing.Addressing.TheVariants.{Bytes, Sectors}
use Rattle.mmc_frame.specs.declared.kind.Kind.{Kind}
use Rattle.mmc_frame.specs.declared.kind.Kind.TheVariants as Is
use Rattle.mmc_regs.specs.Csd.{IsSdCsd, csd_from, csd_in, csd_number, csd_of, erase_unit_of, sectors_of}
use Rattle.mmc_regs.specs.Register.{checked_number}
use Rattle.mmc_regs.specs.declared.csd.Csd.{Csd}
use Rattle.mmc_regs.specs.declared.csd.Csd.TheVariants.{Mmc, V1, V2}
use Rattle.mmc_regs.specs.declared.fault.RegFault.{RegFault}
use Rattle.mmc_regs.specs.declared.fault.RegFault.TheVariants.{Range, Structure}
use Rattle.mmc_ext_csd.specs.ExtCsd.{boot_sectors, erase_unit, erased_byte, gp_sectors, gp_size_mult}
use Rattle.mmc_ext_csd.specs.ExtCsd.{high_speed_at_52_mhz, sec_count, trim_support}
use Rattle.mmc_ext_csd.specs.Partition.{addressable_sectors, existing_sectors}
use Rattle.mmc_card.specs.Card.{Card}
use Rattle.mmc_card.specs.Made.{HasRegisters, Made, addressing_of, csd_number_of, erase_unit_of_card}
use Rattle.mmc_card.specs.Made.{erased_byte_of_card, has_sector_addresses, is_mmc, is_sd, mmc_sectors, or_none}
use Rattle.mmc_card.specs.Made.{sd_sectors, sectors_in, user_sectors}
use Rattle.mmc_card.specs.RowsSwitch.{IsExtCsdOf, ext_csd_now, is_read, partition_config_for, timing_number, width_number}
use Rattle.mmc_card.specs.declared.part.Part.{Part}
use Rattle.mmc_card.specs.declared.part.Part.TheVariants.{Boot1, Boot2, Gp1, Gp2, Gp3, Gp4, User}
use Rattle.mmc_switch.specs.Info.{has_high_timing, trims_of}
use Rattle.mmc_switch.specs.Sizes.{mmc_sizes, sd_sizes, size_of, user_size}

-- The CSD.

csd_taken : (made : Made) → HasRegisters made → checked_number made.csd ≡ Ok (csd_number_of made)
csd_taken made registers = rw registers.csd_check (rw registers.csd_end refl)

-- its check is sound
pub csd_read : (made : Made) (csd : Csd) → HasRegisters made → csd_in made.kind made.csd ≡ Ok csd
    → csd_of made.kind (csd_number_of made) ≡ Ok csd
csd_read made csd registers e = sym (ap (csd_from made.kind) (csd_taken made registers)) ∙ e

sd_by : (n : ℕ) (first second fits : Bool) (csd : Csd)
    → (let r : Result Csd RegFault =
    cond first (cond fits (Ok (V1 n)) (Err Range)) (cond second (Ok (V2 n)) (Err Structure)) in r ≡ Ok csd)
    → IsSdCsd csd × (csd_number csd ≡ n)
sd_by n true second true csd e =
    let is : V1 n ≡ csd = cc e in subst (λ c. IsSdCsd c × (csd_number c ≡ n)) is (tt, refl)
sd_by n true second false csd e = cc e
sd_by n false true fits csd e =
    let is : V2 n ≡ csd = cc e in subst (λ c. IsSdCsd c × (csd_number c ≡ n)) is (tt, refl)
sd_by n false false fits csd e = cc e

number_by : (kind : Kind) (n : ℕ) (csd : Csd) → csd_of kind n ≡ Ok csd → csd_number csd ≡ n
number_by Is.Sd n csd e = (sd_by n _ _ _ csd e).1
number_by Is.Mmc n csd e = let is : Mmc n ≡ csd = cc e in subst (λ c. csd_number c ≡ n) is refl

-- the CSD that was found is the register
pub number_is : (made : Made) (csd : Csd) → HasRegisters made → csd_in made.kind made.csd ≡ Ok csd
    → csd_number csd ≡ csd_number_of made
number_is made csd registers e = number_by made.kind (csd_number_of made) csd (csd_read made csd registers e)

-- An SD card.

sd_read : (made : Made) (csd : Csd) → HasRegisters made → made.kind ≡ Is.Sd → csd_in made.kind made.csd ≡ Ok csd
    → csd_of Is.Sd (csd_number_of made) ≡ Ok csd
sd_read made csd registers is e =
    sym (ap (λ (kind : Kind). csd_of kind (csd_number_of made)) is) ∙ csd_read made csd registers e

pub is_sd_csd : (made : Made) (csd : Csd) → HasRegisters made → made.kind ≡ Is.Sd → csd_in made.kind made.csd ≡ Ok csd
    → IsSdCsd csd
is_sd_csd made csd registers is e = (sd_by (csd_number_of made) _ _ _ csd (sd_read made csd registers is e)).0

pub sd_unit : (made : Made) (csd : Csd) → HasRegisters made → made.kind ≡ Is.Sd → csd_in made.kind made.csd ≡ Ok csd
    → erase_unit_of csd ≡ erase_unit_of_card made
sd_unit made csd registers is e =
    let read = sym (ap (or_none erase_unit_of) (sd_read made csd registers is e)) in rw is read

either : {X : Type 0} (b : Bool) (x : X) → cond b x x ≡ x
either true x = refl
either false x = refl

none_exists : (addressing : Addressing) → existing_sectors 0 addressing ≡ 0
none_exists addressing = either (nat_le 0 (addressable_sectors addressing)) 0

sd_user : (made : Made) (csd : Csd) → made.kind ≡ Is.Sd → csd_of Is.Sd (csd_number_of made) ≡ Ok csd
    → sectors_of csd ≡ sd_sectors made User
sd_user made csd is e = let read = sym (ap (or_none sectors_of) e) in rw is read

sd_all : (made : Made) (csd : Csd) → made.kind ≡ Is.Sd → csd_of Is.Sd (csd_number_of made) ≡ Ok csd
    → (part : Part) → size_of (sd_sizes (addressing_of made) csd) part
    ≡ existing_sectors (sd_sectors made part) (addressing_of made)
sd_all made csd is e User = ap (λ n. existing_sectors n (addressing_of made)) (sd_user made csd is e)
sd_all made csd is e Boot1 = sym (none_exists (addressing_of made))
sd_all made csd is e Boot2 = sym (none_exists (addressing_of made))
sd_all made csd is e Gp1 = sym (none_exists (addressing_of made))
sd_all made csd is e Gp2 = sym (none_exists (addressing_of made))
sd_all made csd is e Gp3 = sym (none_exists (addressing_of made))
sd_all made csd is e Gp4 = sym (none_exists (addressing_of made))

sectors_by : (made : Made) (kind : Kind) (part : Part) → made.kind ≡ kind
    → sectors_in made part ≡ cond (is_sd kind) (sd_sectors made part) (mmc_sectors made part)
sectors_by made kind part is = ap (λ (k : Kind). cond (is_sd k) (sd_sectors made part) (mmc_sectors made part)) is

pub sd_sizes_are : (made : Made) (csd : Csd) (addressing : Addressing) → HasRegisters made → made.kind ≡ Is.Sd
    → csd_in made.kind made.csd ≡ Ok csd → addressing ≡ addressing_of made
    → (part : Part) → size_of (sd_sizes addressing csd) part
    ≡ existing_sectors (sectors_in made part) (addressing_of made)
sd_sizes_are made csd addressing registers is e by part =
    ap (λ (a : Addressing). size_of (sd_sizes a csd) part) by
    ∙ sd_all made csd is (sd_read made csd registers is e) part
    ∙ ap (λ n. existing_sectors n (addressing_of made)) (sym (sectors_by made Is.Sd part is))

-- Sizes that commands can address.

exists_within : (size most : ℕ) (fits : Bool) → nat_le size most ≡ fits → cond fits size 0 ≤ most
exists_within size most true e = leb-true size most e
exists_within size most false e = omega arith

existing_fit : (size : ℕ) (addressing : Addressing) → existing_sectors size addressing ≤ addressable_sectors addressing
existing_fit size addressing = exists_within size (addressable_sectors addressing) _ refl

pub sd_fit : (addressing : Addressing) (csd : Csd) (part : Part)
    → size_of (sd_sizes addressing csd) part ≤ addressable_sectors addressing
sd_fit addressing csd User = existing_fit (sectors_of csd) addressing
sd_fit addressing csd Boot1 = omega arith
sd_fit addressing csd Boot2 = omega arith
sd_fit addressing csd Gp1 = omega arith
sd_fit addressing csd Gp2 = omega arith
sd_fit addressing csd Gp3 = omega arith
sd_fit addressing csd Gp4 = omega arith

pub mmc_fit : (addressing : Addressing) (csd : Csd) (block : List ℕ) (part : Part)
    → size_of (mmc_sizes addressing csd block) part ≤ addressable_sectors addressing
mmc_fit addressing csd block User = existing_fit (user_size addressing csd block) addressing
mmc_fit addressing csd block Boot1 = existing_fit (boot_sectors block) addressing
mmc_fit addressing csd block Boot2 = existing_fit (boot_sectors block) addressing
mmc_fit addressing csd block Gp1 = existing_fit (gp_sectors 1 block) addressing
mmc_fit addressing csd block Gp2 = existing_fit (gp_sectors 2 block) addressing
mmc_fit addressing csd block Gp3 = existing_fit (gp_sectors 3 block) addressing
mmc_fit addressing csd block Gp4 = existing_fit (gp_sectors 4 block) addressing

-- The EXT_CSD as it is sent: bytes that no switch writes are the register's.

pub byte_kept : (card : Card) (k : ℕ) → k ≢ 175 → k ≢ 179 → k ≢ 183 → k ≢ 185
    → slice_index (ext_csd_now card) k ≡ slice_index card.made.ext_csd k
byte_kept card k a b c d =
    get_or-set_other _ 185 k (timing_number card.timing) 0 d ∙ get_or-set_other _ 183 k (width_number card.width) 0 c
    ∙ get_or-set_other _ 179 k (partition_config_for card.made card.part) 0 b
    ∙ get_or-set_other _ 175 k card.erase_group_def 0 a

same_count : (xs ys : List ℕ) → slice_index xs 212 ≡ slice_index ys 212 → slice_index xs 213 ≡ slice_index ys 213
    → slice_index xs 214 ≡ slice_index ys 214 → slice_index xs 215 ≡ slice_index ys 215 → sec_count xs ≡ sec_count ys
same_count xs ys a b c d = rw (a, b, c, d) refl

-- a byte that is read, of a block that says so, and that no switch writes
pub byte_told : (card : Card) (block : List ℕ) (k : ℕ) → IsExtCsdOf card block → is_read k ≡ true → k ≢ 175 → k ≢ 179
    → k ≢ 183 → k ≢ 185 → slice_index block k ≡ slice_index card.made.ext_csd k
byte_told card block k told read a b c d = told.read k read ∙ byte_kept card k a b c d

pub count_kept : (card : Card) (block : List ℕ) → IsExtCsdOf card block → sec_count block ≡ sec_count card.made.ext_csd
count_kept card block told =
    let at = λ (k : ℕ) (above : 211 < k) (read : is_read k ≡ true).
    byte_told card block k told read (omega arith) (omega arith) (omega arith) (omega arith) in
    same_count block card.made.ext_csd (at 212 (omega arith) refl) (at 213 (omega arith) refl) (at 214 (omega arith) refl)
    (at 215 (omega arith) refl)

same_mult : (i : ℕ) (xs ys : List ℕ) → let p = 143 + 3 * (i - 1) in slice_index xs p ≡ slice_index ys p
    → slice_index xs (suc p) ≡ slice_index ys (suc p)
    → slice_index xs (suc (suc p)) ≡ slice_index ys (suc (suc p)) → gp_size_mult i xs ≡ gp_size_mult i ys
same_mult i xs ys a b c = rw (a, b, c) refl

same_gp : (i : ℕ) (xs ys : List ℕ) → slice_index xs 155 ≡ slice_index ys 155 → gp_size_mult i xs ≡ gp_size_mult i ys
    → slice_index xs 221 ≡ slice_index ys 221 → slice_index xs 224 ≡ slice_index ys 224
    → gp_sectors i xs ≡ gp_sectors i ys
same_gp i xs ys a b c d = rw (a, b, c, d) refl

-- GP_SIZE_MULT is read
mult_read : (k : ℕ) → 143 ≤ k → k ≤ 155 → is_read k ≡ true
mult_read k low high = rw (le-leb 143 k low, le-leb k 155 high) refl

gp_kept : (card : Card) (block : List ℕ) (i : ℕ) → IsExtCsdOf card block → 1 ≤ i → i ≤ 4
    → gp_sectors i block ≡ gp_sectors i card.made.ext_csd
gp_kept card block i told first last =
    let low = λ (k : ℕ) (above : 143 ≤ k) (below : k ≤ 155).
    byte_told card block k told (mult_read k above below) (omega arith) (omega arith) (omega arith) (omega arith) in
    let high = λ (k : ℕ) (above : 211 < k) (read : is_read k ≡ true).
    byte_told card block k told read (omega arith) (omega arith) (omega arith) (omega arith) in
    let p = 143 + 3 * (i - 1) in
    same_gp i block card.made.ext_csd (low 155 (omega arith) (omega arith))
    (same_mult i block card.made.ext_csd (low p (omega arith) (omega arith)) (low (suc p) (omega arith) (omega arith))
    (low (suc (suc p)) (omega arith) (omega arith)))
    (high 221 (omega arith) refl) (high 224 (omega arith) refl)

-- An eMMC device.

user_kept : (addressing : Addressing) (csd : Csd) (xs ys : List ℕ) → sec_count xs ≡ sec_count ys
    → user_size addressing csd xs ≡ user_size addressing csd ys
user_kept Bytes csd xs ys e = refl
user_kept Sectors csd xs ys e = e

user_by : (by_sectors : Bool) (csd : Csd) (block : List ℕ)
    → user_size (cond by_sectors Sectors Bytes) csd block ≡ cond by_sectors (sec_count block) (sectors_of csd)
user_by true csd block = refl
user_by false csd block = refl

mmc_user : (made : Made) (csd : Csd) → made.kind ≡ Is.Mmc → csd_of made.kind (csd_number_of made) ≡ Ok csd
    → user_size (addressing_of made) csd made.ext_csd ≡ user_sectors made
mmc_user made csd is e =
    let by_sectors = has_sector_addresses made in
    let count = sec_count made.ext_csd in
    user_by by_sectors csd made.ext_csd ∙ ap (λ n. cond by_sectors count n) (sym (ap (or_none sectors_of) e))
    ∙ ap (λ (kind : Kind). cond (is_mmc kind && by_sectors) count (or_none sectors_of (csd_of made.kind
    (csd_number_of made)))) (sym is)

twice_by : (size most : ℕ) (fits : Bool) → nat_le size most ≡ fits
    → cond (nat_le (cond fits size 0) most) (cond fits size 0) 0 ≡ cond fits size 0
twice_by size most true e = rw e refl
twice_by size most false e = either (nat_le 0 most) 0

-- what exists of what exists is all of it
exists_twice : (size : ℕ) (addressing : Addressing)
    → existing_sectors (existing_sectors size addressing) addressing ≡ existing_sectors size addressing
exists_twice size addressing = twice_by size (addressable_sectors addressing) _ refl

mmc_gp : (card : Card) (block : List ℕ) (i : ℕ) (addressing : Addressing) → IsExtCsdOf card block → 1 ≤ i → i ≤ 4
    → existing_sectors (gp_sectors i block) addressing
    ≡ existing_sectors (existing_sectors (gp_sectors i card.made.ext_csd) addressing) addressing
mmc_gp card block i addressing told first last =
    ap (λ n. existing_sectors n addressing) (gp_kept card block i told first last)
    ∙ sym (exists_twice (gp_sectors i card.made.ext_csd) addressing)

mmc_boot : (card : Card) (block : List ℕ) (addressing : Addressing) → IsExtCsdOf card block
    → existing_sectors (boot_sectors block) addressing
    ≡ existing_sectors (boot_sectors card.made.ext_csd) addressing
mmc_boot card block addressing told =
    ap (λ n. existing_sectors (n * 256) addressing)
    (byte_told card block 226 told refl (omega arith) (omega arith) (omega arith) (omega arith))

mmc_all : (card : Card) (csd : Csd) (block : List ℕ) → IsExtCsdOf card block → card.made.kind ≡ Is.Mmc
    → csd_of card.made.kind (csd_number_of card.made) ≡ Ok csd
    → (part : Part) → size_of (mmc_sizes (addressing_of card.made) csd block) part
    ≡ existing_sectors (mmc_sectors card.made part) (addressing_of card.made)
mmc_all card csd block told is e User =
    ap (λ n. existing_sectors n (addressing_of card.made))
    (user_kept (addressing_of card.made) csd block card.made.ext_csd (count_kept card block told)
    ∙ mmc_user card.made csd is e)
mmc_all card csd block told is e Boot1 = mmc_boot card block (addressing_of card.made) told
mmc_all card csd block told is e Boot2 = mmc_boot card block (addressing_of card.made) told
mmc_all card csd block told is e Gp1 = mmc_gp card block 1 (addressing_of card.made) told (omega arith) (omega arith)
mmc_all card csd block told is e Gp2 = mmc_gp card block 2 (addressing_of card.made) told (omega arith) (omega arith)
mmc_all card csd block told is e Gp3 = mmc_gp card block 3 (addressing_of card.made) told (omega arith) (omega arith)
mmc_all card csd block told is e Gp4 = mmc_gp card block 4 (addressing_of card.made) told (omega arith) (omega arith)

pub mmc_sizes_are : (card : Card) (csd : Csd) (addressing : Addressing) (block : List ℕ) → HasRegisters card.made
    → card.made.kind ≡ Is.Mmc → csd_in card.made.kind card.made.csd ≡ Ok csd → addressing ≡ addressing_of card.made
    → IsExtCsdOf card block → (part : Part) → size_of (mmc_sizes addressing csd block) part
    ≡ existing_sectors (sectors_in card.made part) (addressing_of card.made)
mmc_sizes_are card csd addressing block registers is e by told part =
    ap (λ (a : Addressing). size_of (mmc_sizes a csd block) part) by
    ∙ mmc_all card csd block told is (csd_read card.made csd registers e) part
    ∙ ap (λ n. existing_sectors n (addressing_of card.made)) (sym (sectors_by card.made Is.Mmc part is))

pub mmc_unit : (card : Card) (block : List ℕ) → card.made.kind ≡ Is.Mmc → IsExtCsdOf card block
    → erase_unit block ≡ erase_unit_of_card card.made
mmc_unit card block is told =
    let kept = byte_told card block 224 told refl (omega arith) (omega arith) (omega arith) (omega arith) in
    ap (λ n. n * 1024) kept ∙ rw is refl

pub mmc_erased : (card : Card) (block : List ℕ) → card.made.kind ≡ Is.Mmc → IsExtCsdOf card block
    → erased_byte block ≡ erased_byte_of_card card.made
mmc_erased card block is told =
    let kept = byte_told card block 181 told refl (omega arith) (omega arith) (omega arith) (omega arith) in
    ap (λ n. if n == 0 then 0 else 0xff) kept ∙ rw is refl

pub mmc_trims : (card : Card) (block : List ℕ) → card.made.kind ≡ Is.Mmc → IsExtCsdOf card block
    → (trim_support block == 1) ≡ trims_of card.made
mmc_trims card block is told =
    let kept = byte_told card block 231 told refl (omega arith) (omega arith) (omega arith) (omega arith) in
    ap (λ n. field 4 4 n == 1) kept ∙ rw is refl

pub mmc_speed : (card : Card) (block : List ℕ) → card.made.kind ≡ Is.Mmc → IsExtCsdOf card block
    → (high_speed_at_52_mhz block == 1) ≡ has_high_timing card.made
mmc_speed card block is told =
    let kept = byte_told card block 196 told refl (omega arith) (omega arith) (omega arith) (omega arith) in
    ap (λ n. field 1 1 n == 1) kept ∙ rw is refl

-- Each kind.

-- a test says whether a field is 1
pub tested : (b : Bool) (n : ℕ) → (IsTrue b ↔ (n ≡ 1)) → b ≡ (n == 1)
tested b n e = grind (arith, nat_tests)
