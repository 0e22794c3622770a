-- The registers that are made are as they are wanted, and a card is built by them.
use Rattle.std.proofs.Common.{◌≡◌, ℕ, ◌*◌, ◌/◌, ◌-◌, ◌<◌, ◌≤◌, List, true, None, inl, inr}
use Rattle.std.proofs.Common.{◌&&◌, sym, refl, ap, ◌∙◌, subst, arith, eq-eqb}
use Rattle.std.specs.Prelude.{◌==◌, nat_le, not}
use Rattle.std.proofs.lemmas.Bool.{and_from, le-leb, ne_eqb}
use Rattle.mmc_frame.specs.declared.kind.Kind.{Kind}
use Rattle.mmc_frame.specs.declared.kind.Kind.TheVariants as Is
use Rattle.mmc_card.specs.Made.{is_read_only, user_sectors}
use Rattle.mmc_card_sim.specs.CardSpec.{has_early_bits, has_user_sectors, image_is_taken, refusal_of, registers_are_taken}
use Rattle.mmc_card_sim.specs.CardSpec.{sizes_of, takes_image}
use Rattle.mmc_card_sim.specs.Registers.{made_of}
use Rattle.mmc_card_sim.specs.Sizes.{total}
use Rattle.mmc_card_rows.specs.declared.registers.Registers.{Registers}
use Rattle.mmc_card_sim.specs.declared.spec.CardSpec.{CardSpec}
use Rattle.card_maker.specs.NewExtCsd.{new_ext_csd}
use Rattle.mmc_regs.specs.Register.{checked_register}
use Rattle.card_maker.specs.NewRegisters.{csd_by_blocks, csd_v2, mmc_registers, new_scr, sd_classes, sd_registers}
use Rattle.card_maker.specs.Sizes.{IsByteCount, IsCardOf, IsCount, IsSectorCount, IsSizeFault, SaysCount}
use Rattle.card_maker.specs.Wanted.{HasFeatures, HasPartitions, HasWanted, IsAsWanted, IsMakeFault, IsMmcBeside, IsSdBeside}
use Rattle.card_maker.specs.declared.csd.TheConstants.{MMC_FIXED, V1_FIXED, V2_FIXED}
use Rattle.card_maker.specs.declared.fault.MakeFault.{MakeFault}
use Rattle.card_maker.specs.declared.fault.MakeFault.TheVariants.{NotASize, TooLarge, TooSmall}
use Rattle.card_maker.specs.declared.wanted.Wanted.{Wanted}
use Rattle.card_maker.proofs.CountLemmas.{byte_count_most, count_least}
use Rattle.card_maker.proofs.MmcLemmas.{bytes_card, bytes_partitions, mmc_features, mmc_protection, sectors_card, sectors_partitions}
use Rattle.card_maker.proofs.SdLemmas.{cond_yes, v1_card, v1_features, v2_card, v2_features}
use Rattle.card_maker.proofs.SizeLemmas.{count_from_size, size_fault}

pub sd_bytes_wanted : (wanted : Wanted) (registers : Registers) (classes read size mult cid : ℕ) (csd : List ℕ)
    → IsSdBeside wanted → SaysCount read size mult wanted.sectors → wanted.sectors ≤ 4194304
    → classes ≡ sd_classes wanted.high_speed
    → csd ≡ checked_register (csd_by_blocks V1_FIXED classes read size mult wanted.read_only)
    → registers ≡ sd_registers 0x00ff8000 (checked_register cid) csd (new_scr wanted.four_lines wanted.cmd23) wanted.high_speed
    → HasWanted wanted registers
sd_bytes_wanted wanted registers classes read size mult cid csd beside says small class_is csd_is is =
    let number = csd_by_blocks V1_FIXED (sd_classes wanted.high_speed) read size mult wanted.read_only in
    let made = sd_registers 0x00ff8000 (checked_register cid) (checked_register number)
    (new_scr wanted.four_lines wanted.cmd23) wanted.high_speed in
    let same : registers ≡ made =
    is ∙ ap (λ bytes. sd_registers 0x00ff8000 (checked_register cid) bytes (new_scr wanted.four_lines wanted.cmd23) wanted.high_speed)
    (csd_is ∙ ap (λ k. checked_register (csd_by_blocks V1_FIXED k read size mult wanted.read_only)) class_is) in
    let others = v1_features wanted read size mult 0x00ff8000 cid number (omega (arith, says.most_block)) says.fits says.mult_fits refl in
    subst (HasWanted wanted) (sym same) (record {
      card = subst (λ k. IsCardOf k wanted.sectors made) (sym beside.kind)
          (v1_card wanted wanted.sectors read size mult cid number says small refl);
      features = subst (λ k. HasFeatures k wanted (made_of made)) (sym beside.kind) others.0;
      partitions = record {
        boot1 = sym beside.boot;
        boot2 = sym beside.boot;
        gp1 = sym beside.gp;
        gp2 = refl;
        gp3 = refl;
        gp4 = refl;
      };
      protection = others.1;
    })

pub sd_sectors_wanted : (wanted : Wanted) (registers : Registers) (classes size cid : ℕ) (csd : List ℕ)
    → IsSdBeside wanted → IsSectorCount Is.Sd wanted.sectors → classes ≡ sd_classes wanted.high_speed
    → size ≡ wanted.sectors / 1024 - 1 → csd ≡ checked_register (csd_v2 V2_FIXED classes size wanted.read_only)
    → registers ≡ sd_registers 0x40ff8000 (checked_register cid) csd (new_scr wanted.four_lines wanted.cmd23) wanted.high_speed
    → HasWanted wanted registers
sd_sectors_wanted wanted registers classes size cid csd beside count class_is size_is csd_is is =
    let n = wanted.sectors / 1024 - 1 in
    let number = csd_v2 V2_FIXED (sd_classes wanted.high_speed) n wanted.read_only in
    let made = sd_registers 0x40ff8000 (checked_register cid) (checked_register number)
    (new_scr wanted.four_lines wanted.cmd23) wanted.high_speed in
    let same : registers ≡ made =
    is ∙ ap (λ bytes. sd_registers 0x40ff8000 (checked_register cid) bytes (new_scr wanted.four_lines wanted.cmd23) wanted.high_speed)
    (csd_is ∙ ap (λ k. checked_register (csd_v2 V2_FIXED k size wanted.read_only)) class_is
    ∙ ap (λ s. checked_register (csd_v2 V2_FIXED (sd_classes wanted.high_speed) s wanted.read_only)) size_is) in
    let most = count.2 in
    let fits : n < 4194304 = omega arith in
    let others = v2_features wanted n 0x40ff8000 cid number fits refl in
    subst (HasWanted wanted) (sym same) (record {
      card = subst (λ k. IsCardOf k wanted.sectors made) (sym beside.kind)
          (v2_card wanted wanted.sectors cid number count.0 count.1 count.2 refl);
      features = subst (λ k. HasFeatures k wanted (made_of made)) (sym beside.kind) others.0;
      partitions = record {
        boot1 = sym beside.boot;
        boot2 = sym beside.boot;
        gp1 = sym beside.gp;
        gp2 = refl;
        gp3 = refl;
        gp4 = refl;
      };
      protection = others.1;
    })

-- of an eMMC device, whichever way its sectors are counted
mmc_wanted : (wanted : Wanted) (registers : Registers) (ocr cid number sectors boot gp most : ℕ) (csd block : List ℕ)
    → IsMmcBeside most wanted → boot ≡ wanted.boot / 256 → gp ≡ wanted.gp / 1024
    → csd ≡ checked_register number → block ≡ new_ext_csd sectors boot gp wanted.high_speed
    → registers ≡ mmc_registers ocr (checked_register cid) csd block
    → (let made = mmc_registers ocr (checked_register cid) (checked_register number)
    (new_ext_csd sectors boot gp wanted.high_speed) in
    (boot < 256 → IsCardOf Is.Mmc wanted.sectors made)
    → (wanted.boot ≡ boot * 256 → wanted.gp ≡ gp * 1024 → wanted.gp ≤ most → HasPartitions wanted (made_of made))
    → is_read_only (made_of made) ≡ wanted.read_only → HasWanted wanted registers)
mmc_wanted wanted registers ocr cid number sectors boot gp most csd block beside boot_is gp_is csd_is block_is is card partitions
    protection =
    let ext = new_ext_csd sectors boot gp wanted.high_speed in
    let made = mmc_registers ocr (checked_register cid) (checked_register number) ext in
    let same : registers ≡ made =
    is ∙ ap (λ bytes. mmc_registers ocr (checked_register cid) bytes block) csd_is
    ∙ ap (λ bytes. mmc_registers ocr (checked_register cid) (checked_register number) bytes) block_is in
    let boot_unit = beside.boot.0 in
    let boot_most = beside.boot.1 in
    let gp_unit = beside.gp.0 in
    subst (HasWanted wanted) (sym same) (record {
      card = subst (λ k. IsCardOf k wanted.sectors made) (sym beside.kind) (card (omega (arith, boot_is)));
      features = subst (λ k. HasFeatures k wanted (made_of made)) (sym beside.kind)
          (mmc_features wanted ocr sectors boot gp (checked_register cid) (checked_register number));
      partitions = partitions (omega (arith, boot_is)) (omega (arith, gp_is)) beside.gp.1;
      protection = protection;
    })

pub mmc_bytes_wanted : (wanted : Wanted) (registers : Registers) (read size mult cid boot gp : ℕ) (csd block : List ℕ)
    → IsMmcBeside 8388608 wanted → SaysCount read size mult wanted.sectors → wanted.sectors ≤ 4194304
    → boot ≡ wanted.boot / 256 → gp ≡ wanted.gp / 1024
    → csd ≡ checked_register (csd_by_blocks MMC_FIXED 0x0f5 read size mult wanted.read_only)
    → block ≡ new_ext_csd 0 boot gp wanted.high_speed
    → registers ≡ mmc_registers 0x00ff8080 (checked_register cid) csd block → HasWanted wanted registers
mmc_bytes_wanted wanted registers read size mult cid boot gp csd block beside says small boot_is gp_is csd_is block_is is =
    let number = csd_by_blocks MMC_FIXED 0x0f5 read size mult wanted.read_only in
    let ext = new_ext_csd 0 boot gp wanted.high_speed in
    mmc_wanted wanted registers 0x00ff8080 cid number 0 boot gp 8388608 csd block beside boot_is gp_is csd_is block_is is
    (λ few. bytes_card wanted.sectors read size mult cid number boot gp 0 wanted.high_speed wanted.read_only says small few refl)
    (bytes_partitions wanted 0 boot gp (checked_register cid) (checked_register number))
    (mmc_protection read size mult 0x00ff8080 cid number ext wanted.read_only (omega (arith, says.most_block)) says.fits
    says.mult_fits refl)

pub mmc_sectors_wanted : (wanted : Wanted) (registers : Registers) (cid boot gp : ℕ) (csd block : List ℕ)
    → IsMmcBeside 4294967296 wanted → IsSectorCount Is.Mmc wanted.sectors
    → boot ≡ wanted.boot / 256 → gp ≡ wanted.gp / 1024
    → csd ≡ checked_register (csd_by_blocks MMC_FIXED 0x0f5 9 4095 7 wanted.read_only)
    → block ≡ new_ext_csd wanted.sectors boot gp wanted.high_speed
    → registers ≡ mmc_registers 0x40ff8080 (checked_register cid) csd block → HasWanted wanted registers
mmc_sectors_wanted wanted registers cid boot gp csd block beside count boot_is gp_is csd_is block_is is =
    let number = csd_by_blocks MMC_FIXED 0x0f5 9 4095 7 wanted.read_only in
    let ext = new_ext_csd wanted.sectors boot gp wanted.high_speed in
    mmc_wanted wanted registers 0x40ff8080 cid number wanted.sectors boot gp 4294967296 csd block beside boot_is gp_is csd_is
    block_is is (λ few. sectors_card wanted.sectors cid number boot gp wanted.high_speed count.0 count.1 few)
    (sectors_partitions wanted wanted.sectors boot gp (checked_register cid) (checked_register number))
    (mmc_protection 9 4095 7 0x40ff8080 cid number ext wanted.read_only (omega arith) (omega arith) (omega arith) refl)

-- ---- a number is counted in bytes up to 2 GiB, and in sectors above

pub in_bytes : (kind : Kind) (n : ℕ) → IsCount kind n → n ≤ 4194304 → IsByteCount n
in_bytes kind n (inl h) small = h
in_bytes Is.Sd n (inr h) small = absurd (omega (arith, h.0))
in_bytes Is.Mmc n (inr h) small = absurd (omega (arith, h.0))

pub in_sectors : (kind : Kind) (n : ℕ) → IsCount kind n → 4194304 < n → IsSectorCount kind n
in_sectors kind n (inl h) large = absurd (omega (arith, byte_count_most n h))
in_sectors kind n (inr h) large = h

-- ---- faults, and building

pub size_is_refused : (wanted : Wanted) (fault : MakeFault) → IsSizeFault (IsCount wanted.kind) wanted.sectors fault
    → IsMakeFault wanted fault
size_is_refused wanted (TooSmall sectors least) h = size_fault wanted.kind wanted.sectors (TooSmall sectors least) h
size_is_refused wanted (TooLarge sectors most) h = size_fault wanted.kind wanted.sectors (TooLarge sectors most) h
size_is_refused wanted (NotASize sectors below above) h =
    size_fault wanted.kind wanted.sectors (NotASize sectors below above) h
size_is_refused wanted fault h = absurd h

short_waits : (ready busy : ℕ) → ready ≡ 0 → busy ≡ 0 → (nat_le ready 15 && nat_le busy 15) ≡ true
short_waits ready busy a b = rw (a, b) refl

right_size : (user n : ℕ) → user ≡ n → 4 ≤ n → has_user_sectors user n ≡ true
right_size user n is least =
    and_from (not (user == 0)) (user == n)
    (ap not (ne_eqb user 0 (λ none. absurd (omega (arith, is, none))))) (eq-eqb user n is)

pub can_be_built : (wanted : Wanted) (spec : CardSpec) → IsAsWanted wanted spec → total (sizes_of spec.registers) ≤ 65536
    → refusal_of spec ≡ None
can_be_built wanted spec h few =
    let card = h.registers.card in
    let least = count_least wanted.kind wanted.sectors (count_from_size wanted.kind wanted.sectors (spec.registers, card)) in
    let size : has_user_sectors (user_sectors (made_of spec.registers)) spec.sectors ≡ true =
    ap (has_user_sectors (user_sectors (made_of spec.registers))) h.sectors
    ∙ right_size (user_sectors (made_of spec.registers)) wanted.sectors card.size least in
    let taken : registers_are_taken spec ≡ true =
    and_from _ _ card.taken (and_from _ _ (short_waits spec.ready spec.busy h.plain.ready h.plain.busy)
    (and_from _ _ (ap has_early_bits h.plain.early) size)) in
    let image : image_is_taken spec ≡ true =
    ap (takes_image (sizes_of spec.registers)) h.plain.image
    ∙ and_from _ _ (le-leb (total (sizes_of spec.registers)) 65536 few) refl in
    cond_yes _ _ _ taken ∙ cond_yes _ _ _ image
