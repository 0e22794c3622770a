-- The registers of a new SD card.
use Rattle.std.proofs.Common.{◌≡◌, ℕ, ◌+◌, ◌-◌, ◌*◌, ◌/◌, ◌%◌, ◌^◌, ◌<◌, ◌≤◌, length, Bool, true, false, cond, inl, inr}
use Rattle.std.proofs.Common.{◌&&◌, sym, refl, ap, ◌∙◌, arith, eq-eqb}
use Rattle.std.specs.Prelude.{Ok, ◌==◌, ◌||◌, is_ok, not}
use Rattle.std.proofs.Math.Nat.{mul-div_cancel_left}
use Rattle.std.proofs.lemmas.Bool.{and_from, le-leb, le-ltb, lt-ltb, ne_eqb}
use Rattle.mmc_frame.specs.Flips.{AreBytes}
use Rattle.mmc_frame.specs.declared.kind.Kind.TheVariants as Is
use Rattle.mmc_regs.specs.Csd.{csd_from, csd_of, has_block_length, is_protected, sectors_of}
use Rattle.mmc_regs.specs.CsdFields.{c_size, c_size_mult, ccc, class_10, csd_structure, perm_write_protect, read_bl_len, tmp_write_protect, write_bl_len}
use Rattle.mmc_regs.specs.Register.{checked_number, checked_register, register_number}
use Rattle.mmc_regs.specs.declared.csd.Csd.TheVariants.{V1, V2}
use Rattle.mmc_regs.specs.Scr.{four_lines, scr_number, sd_spec, set_block_count}
use Rattle.mmc_regs.specs.SwitchStatus.{high_speed_support}
use Rattle.mmc_card.proofs.ByteLemmas.{bytes_by}
use Rattle.mmc_card_sim.specs.CardSpec.{HasWidths}
use Rattle.mmc_card_sim.specs.Registers.{switch_status_by}
use Rattle.mmc_card.specs.Made.{is_read_only, or_none}
use Rattle.mmc_card_sim.specs.Registers.{made_of}
use Rattle.card_maker.specs.NewRegisters.{bit, csd_by_blocks, csd_v2, new_scr, sd_classes, sd_registers}
use Rattle.card_maker.specs.Sizes.{IsCardOf, SaysCount}
use Rattle.card_maker.specs.Wanted.{HasSdFeatures}
use Rattle.card_maker.specs.declared.csd.TheConstants.{V1_FIXED, V2_FIXED}
use Rattle.card_maker.specs.declared.wanted.Wanted.{Wanted}
use Rattle.mmc_regs.proofs.CheckedLemmas.{checked_bytes, checked_end, checked_length, checked_sound}
use Rattle.card_maker.proofs.FieldLemmas.{SaysBlocks, v1_csd_says, v2_csd_says}

pub cond_yes : {A : Type 0} (b : Bool) (x y : A) → b ≡ true → cond b x y ≡ x
cond_yes true x y h = refl
cond_yes false x y h = cc

pub cond_no : {A : Type 0} (b : Bool) (x y : A) → b ≡ false → cond b x y ≡ y
cond_no true x y h = cc
cond_no false x y h = refl

-- a register with its check is taken
pub checked_taken : (number : ℕ) → checked_number (checked_register number) ≡ Ok (register_number (checked_register number))
checked_taken number = cond_yes _ _ _ (and_from _ _ (checked_sound number) (checked_end number))

pub block_length_taken : (length : ℕ) → 9 ≤ length → length ≤ 11 → has_block_length length ≡ true
block_length_taken length low high = and_from _ _ (le-leb 9 length low) (le-leb length 11 high)

by_bits : (perm tmp : ℕ) (protect : Bool) → perm ≡ 0 → tmp ≡ bit protect → ((perm == 1) || (tmp == 1)) ≡ protect
by_bits perm tmp true p t = rw (p, t) refl
by_bits perm tmp false p t = rw (p, t) refl

pub protected_said : (n : ℕ) (protect : Bool) → perm_write_protect n ≡ 0 → tmp_write_protect n ≡ bit protect
    → is_protected n ≡ protect
protected_said n protect perm tmp = by_bits (perm_write_protect n) (tmp_write_protect n) protect perm tmp

-- the size that blocks say
pub blocks_say : (n classes read size mult sectors : ℕ) (protect : Bool) → SaysBlocks n classes read size mult protect
    → SaysCount read size mult sectors
    → (c_size n + 1) * 2 ^ (c_size_mult n + 2) * 2 ^ read_bl_len n / 512 ≡ sectors
blocks_say n classes read size mult sectors protect h count =
    ap (λ (s : ℕ). (s + 1) * 2 ^ (c_size_mult n + 2) * 2 ^ read_bl_len n / 512) h.count
    ∙ ap (λ (m : ℕ). (size + 1) * 2 ^ (m + 2) * 2 ^ read_bl_len n / 512) h.multiplier
    ∙ ap (λ (l : ℕ). (size + 1) * 2 ^ (mult + 2) * 2 ^ l / 512) h.read ∙ ap (λ (m : ℕ). m / 512) count.whole
    ∙ mul-div_cancel_left sectors (omega arith)

scr_length : (four cmd23 : Bool) → length (new_scr four cmd23) ≡ 8
scr_length four cmd23 = refl

scr_bytes : (four cmd23 : Bool) → AreBytes (new_scr four cmd23)
scr_bytes true true = bytes_by (new_scr true true) refl
scr_bytes true false = bytes_by (new_scr true false) refl
scr_bytes false true = bytes_by (new_scr false true) refl
scr_bytes false false = bytes_by (new_scr false false) refl

pub classes_small : (high_speed : Bool) → sd_classes high_speed < 4096
classes_small true = omega arith
classes_small false = omega arith

switch_by : (classes tenth : ℕ) (high_speed : Bool) → classes ≡ sd_classes high_speed
    → tenth ≡ sd_classes high_speed / 1024 % 2 → ((classes == 0) || (tenth == 1)) ≡ high_speed
switch_by classes tenth true a b = rw (a, b) refl
switch_by classes tenth false a b = rw (a, b) refl

and_yes : (b : Bool) → (b && true) ≡ b
and_yes true = refl
and_yes false = refl

speed_by : (high_speed : Bool) → (high_speed_support (switch_status_by high_speed) == 1) ≡ high_speed
speed_by true = refl
speed_by false = refl

scr_switch : (four cmd23 b high_speed : Bool) → b ≡ high_speed
    → (b && not (sd_spec (scr_number (new_scr four cmd23)) == 0)) ≡ high_speed
scr_switch true true b high_speed h = and_yes b ∙ h
scr_switch true false b high_speed h = and_yes b ∙ h
scr_switch false true b high_speed h = and_yes b ∙ h
scr_switch false false b high_speed h = and_yes b ∙ h

lines_by : (four cmd23 : Bool) → (four_lines (scr_number (new_scr four cmd23)) == 1) ≡ four
lines_by true true = refl
lines_by true false = refl
lines_by false true = refl
lines_by false false = refl

cmd23_by : (four cmd23 : Bool) → (set_block_count (scr_number (new_scr four cmd23)) == 1) ≡ cmd23
cmd23_by true true = refl
cmd23_by true false = refl
cmd23_by false true = refl
cmd23_by false false = refl

pub sd_widths : (wanted : Wanted) (ocr cid number : ℕ) → ocr < 2 ^ 32
    → HasWidths (sd_registers ocr (checked_register cid) (checked_register number)
    (new_scr wanted.four_lines wanted.cmd23) wanted.high_speed)
sd_widths wanted ocr cid number small = record {
  ocr = small;
  cid = checked_length cid;
  csd = checked_length number;
  cid_bytes = checked_bytes cid;
  csd_bytes = checked_bytes number;
  own = (refl, scr_bytes wanted.four_lines wanted.cmd23);
}

-- what is said of a card whose classes are these, and whose SCR is this
sd_features : (wanted : Wanted) (ocr cid number : ℕ)
    → ccc (register_number (checked_register number)) ≡ sd_classes wanted.high_speed
    → class_10 (register_number (checked_register number)) ≡ sd_classes wanted.high_speed / 1024 % 2
    → HasSdFeatures wanted (made_of (sd_registers ocr (checked_register cid) (checked_register number)
    (new_scr wanted.four_lines wanted.cmd23) wanted.high_speed))
sd_features wanted ocr cid number classes tenth = record {
  high_speed = speed_by wanted.high_speed;
  switches = scr_switch wanted.four_lines wanted.cmd23 _ wanted.high_speed (switch_by _ _ wanted.high_speed classes tenth);
  lines = lines_by wanted.four_lines wanted.cmd23;
  cmd23 = cmd23_by wanted.four_lines wanted.cmd23;
}

-- ---- at most 2 GiB

pub v1_taken : (n : ℕ) → csd_structure n ≡ 0 → has_block_length (read_bl_len n) ≡ true → has_block_length (write_bl_len n) ≡ true
    → csd_of Is.Sd n ≡ Ok (V1 n)
v1_taken n structure read write =
    cond_yes (csd_structure n == 0) _ _ (eq-eqb (csd_structure n) 0 structure)
    ∙ cond_yes _ _ _ (and_from _ _ read write)

pub v1_card : (wanted : Wanted) (sectors read size mult cid number : ℕ) → SaysCount read size mult sectors → sectors ≤ 4194304
    → number ≡ csd_by_blocks V1_FIXED (sd_classes wanted.high_speed) read size mult wanted.read_only
    → IsCardOf Is.Sd sectors (sd_registers 0x00ff8000 (checked_register cid) (checked_register number)
    (new_scr wanted.four_lines wanted.cmd23) wanted.high_speed)
v1_card wanted sectors read size mult cid number count small is =
    let n = register_number (checked_register number) in
    let says = v1_csd_says (sd_classes wanted.high_speed) read size mult wanted.read_only (classes_small wanted.high_speed)
    (omega (arith, count.most_block)) count.fits count.mult_fits number is in
    let length : has_block_length read ≡ true = block_length_taken read count.least_block count.most_block in
    let read_length : has_block_length (read_bl_len n) ≡ true = ap has_block_length says.0.read ∙ length in
    let write_length : has_block_length (write_bl_len n) ≡ true = ap has_block_length says.0.write ∙ length in
    let csd : csd_of Is.Sd n ≡ Ok (V1 n) = v1_taken n says.1 read_length write_length in
    record {
      kind_is = refl;
      widths = sd_widths wanted _ cid number (omega arith);
      taken = and_from _ _ (ap is_ok (checked_taken cid))
          (and_from _ _ (ap (λ r. is_ok (csd_from Is.Sd r)) (checked_taken number) ∙ ap is_ok csd) refl);
      in_profile = record {
        window = refl;
        unlocked = refl;
        sd = λ _. record {
          named = refl;
          capacity = inl (record { version = says.1; read_length = read_length; write_length = write_length; ccs = refl });
        };
        mmc = λ e. cc;
      };
      addresses = sym (le-ltb 4194304 sectors small);
      size = ap (or_none sectors_of) csd ∙ blocks_say n _ read size mult sectors wanted.read_only says.0 count;
    }

-- ---- above 2 GiB

pub v2_taken : (n : ℕ) → csd_structure n ≡ 1 → csd_of Is.Sd n ≡ Ok (V2 n)
v2_taken n version =
    cond_no (csd_structure n == 0) _ _ (ne_eqb (csd_structure n) 0 (λ none. absurd (omega (arith, version, none))))
    ∙ cond_yes (csd_structure n == 1) _ _ (eq-eqb (csd_structure n) 1 version)

pub v2_card : (wanted : Wanted) (sectors cid number : ℕ) → 4194304 < sectors → sectors % 1024 ≡ 0 → sectors ≤ 2 ^ 32
    → number ≡ csd_v2 V2_FIXED (sd_classes wanted.high_speed) (sectors / 1024 - 1) wanted.read_only
    → IsCardOf Is.Sd sectors (sd_registers 0x40ff8000 (checked_register cid) (checked_register number)
    (new_scr wanted.four_lines wanted.cmd23) wanted.high_speed)
v2_card wanted sectors cid number large unit most is =
    let n = register_number (checked_register number) in
    let fits : sectors / 1024 - 1 < 4194304 = omega arith in
    let says = v2_csd_says (sd_classes wanted.high_speed) (sectors / 1024 - 1) wanted.read_only
    (classes_small wanted.high_speed) fits number is in
    let csd : csd_of Is.Sd n ≡ Ok (V2 n) = v2_taken n says.version in
    let whole : (sectors / 1024 - 1 + 1) * 1024 ≡ sectors = omega arith in
    record {
      kind_is = refl;
      widths = sd_widths wanted _ cid number (omega arith);
      taken = and_from _ _ (ap is_ok (checked_taken cid))
          (and_from _ _ (ap (λ r. is_ok (csd_from Is.Sd r)) (checked_taken number) ∙ ap is_ok csd) refl);
      in_profile = record {
        window = refl;
        unlocked = refl;
        sd = λ _. record { named = refl; capacity = inr (record { version = says.version; ccs = refl; told = refl }) };
        mmc = λ e. cc;
      };
      addresses = sym (lt-ltb 4194304 sectors large);
      size = ap (or_none sectors_of) csd ∙ ap (λ (c : ℕ). (c + 1) * 1024) says.count ∙ whole;
    }

-- ---- what else is wanted

pub v1_features : (wanted : Wanted) (read size mult ocr cid number : ℕ) → read < 16 → size < 4096 → mult < 8
    → number ≡ csd_by_blocks V1_FIXED (sd_classes wanted.high_speed) read size mult wanted.read_only
    → HasSdFeatures wanted (made_of (sd_registers ocr (checked_register cid) (checked_register number)
    (new_scr wanted.four_lines wanted.cmd23) wanted.high_speed))
    × (is_read_only (made_of (sd_registers ocr (checked_register cid) (checked_register number)
    (new_scr wanted.four_lines wanted.cmd23) wanted.high_speed)) ≡ wanted.read_only)
v1_features wanted read size mult ocr cid number a b c is =
    let says = v1_csd_says (sd_classes wanted.high_speed) read size mult wanted.read_only (classes_small wanted.high_speed)
    a b c number is in (
      sd_features wanted ocr cid number says.0.classes_said says.0.class_10_said,
      protected_said _ wanted.read_only says.0.perm says.0.tmp,
    )

pub v2_features : (wanted : Wanted) (size ocr cid number : ℕ) → size < 4194304
    → number ≡ csd_v2 V2_FIXED (sd_classes wanted.high_speed) size wanted.read_only
    → HasSdFeatures wanted (made_of (sd_registers ocr (checked_register cid) (checked_register number)
    (new_scr wanted.four_lines wanted.cmd23) wanted.high_speed))
    × (is_read_only (made_of (sd_registers ocr (checked_register cid) (checked_register number)
    (new_scr wanted.four_lines wanted.cmd23) wanted.high_speed)) ≡ wanted.read_only)
v2_features wanted size ocr cid number a is =
    let says = v2_csd_says (sd_classes wanted.high_speed) size wanted.read_only (classes_small wanted.high_speed) a number is in (
      sd_features wanted ocr cid number says.classes_said says.class_10_said,
      protected_said _ wanted.read_only says.perm says.tmp,
    )
