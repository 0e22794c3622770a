-- What is known of a card is the same.
use denote.Enum.Bare.{same_true, true_same}
use mathlib.Core.HLevel.{is_prop→PathP, Π_prop}
use native.Mathlib.Bridge.{le_prop}
use Rattle.std.proofs.Common.{◌∙◌, ◌≡◌, ◌≤◌, Bool, ap, false, inl, inr, refl, rules, subst, sym, true, ℕ}
use Rattle.std.proofs.lemmas.Bool.{eq-eqb, eqb-true}
use Rattle.std.specs.Prelude.{◌&&◌, ◌==◌, Ok, Result}
use Rattle.std.specs.contracts.prelude.BoolPartialEq.TheImpl as bool_by
use Rattle.mmc_frame.specs.contracts.addressing.Addressing.{the_type as addressing_type}
use Rattle.mmc_frame.specs.contracts.addressing.AddressingPartialEq.TheImpl as addressing_by
use Rattle.mmc_frame.specs.declared.kind.Kind.{Kind}
use Rattle.mmc_frame.specs.declared.kind.Kind.TheVariants as Is
use Rattle.mmc_frame.specs.contracts.kind.Kind.{the_type as kind_type}
use Rattle.mmc_frame.specs.contracts.kind.KindPartialEq.TheImpl as kind_by
use Rattle.mmc_regs.specs.contracts.cid.CidPartialEq.TheImpl as cid_by
use Rattle.mmc_regs.specs.contracts.csd.CsdPartialEq.TheImpl as csd_by
use Rattle.mmc_regs.proofs.CsdLemmas.{Above, AreAlike, AreReadAlike, alike_lasting, read_alike}
use Rattle.mmc_regs.specs.Csd.{csd_of, lasting_csd}
use Rattle.mmc_regs.specs.declared.csd.Csd.{Csd}
use Rattle.mmc_regs.specs.declared.csd.Csd.TheVariants.{Mmc, V1, V2}
use Rattle.mmc_regs.specs.declared.fault.RegFault.{RegFault}
use Rattle.mmc_ext_csd.specs.Partition.{addressable_sectors}
use Rattle.mmc_card.proofs.ToldLemmas.{told_above, told_registers}
use Rattle.mmc_card.specs.Made.{HasRegisters, Made, as_told, csd_number_of}
use Rattle.mmc_card.specs.contracts.exchange.Timing.{the_type as timing_type}
use Rattle.mmc_card.specs.contracts.exchange.Width.{the_type as width_type}
use Rattle.mmc_card.specs.contracts.exchange.WidthPartialEq.TheImpl as width_by
use Rattle.mmc_card.specs.declared.exchange.Lines.{Lines}
use Rattle.mmc_card.specs.declared.exchange.Timing.{Timing}
use Rattle.mmc_card.specs.declared.part.Part.{Part}
use Rattle.mmc_card.specs.declared.part.Part.TheVariants.{Boot1, Gp1, Gp2, Gp3, Gp4, User}
use Rattle.mmc_switch.proofs.InfoLemmas.{csd_read}
use Rattle.mmc_switch.specs.Info.{IsInfo, IsKnown, IsTimingOver, lasting, lasting_timing, used_as}
use Rattle.mmc_switch.specs.Sizes.{size_of}
use Rattle.mmc_switch.specs.contracts.info.InfoPartialEq.TheImpl as by
use Rattle.mmc_switch.specs.contracts.sizes.SizesPartialEq.TheImpl as sizes_by
use Rattle.mmc_switch.specs.declared.info.Info.{Info}
use Rattle.mmc_switch.specs.declared.sizes.Sizes.{Sizes}

-- By its fields; of the facts that each keeps there is one proof at most.
same_fields : (a b : Info) → a.kind ≡ b.kind → a.addressing ≡ b.addressing → a.rca ≡ b.rca → a.cid ≡ b.cid → a.csd ≡ b.csd
    → a.sizes ≡ b.sizes → a.read_only ≡ b.read_only → a.erase_unit ≡ b.erase_unit → a.erased_byte ≡ b.erased_byte
    → a.trims ≡ b.trims → a.cmd23 ≡ b.cmd23 → a.width ≡ b.width → a.timing ≡ b.timing → a ≡ b
same_fields a b kind addressing rca cid csd sizes read_only unit byte trims cmd23 width timing = λ i. record {
  kind = kind i;
  addressing = addressing i;
  rca = rca i;
  cid = cid i;
  csd = csd i;
  sizes = sizes i;
  read_only = read_only i;
  erase_unit = unit i;
  erased_byte = byte i;
  trims = trims i;
  cmd23 = cmd23 i;
  width = width i;
  timing = timing i;
  addressable = is_prop→PathP (λ j. (part : Part) → size_of (sizes j) part ≤ addressable_sectors (addressing j))
      (λ j. Π_prop (λ part. le_prop)) a.addressable b.addressable i;
  some_unit = is_prop→PathP (λ j. 1 ≤ unit j) (λ j. le_prop) a.some_unit b.some_unit i;
}

-- By what `==` tells.

split : (x y : Bool) → (x && y) ≡ true → (x ≡ true) × (y ≡ true)
split true y e = (refl, e)
split false y e = cc (e)

same_bool : (a b : Bool) → bool_by.ghosts.eq a b ≡ true → a ≡ b
same_bool true true e = refl
same_bool true false e = cc (e)
same_bool false true e = cc (e)
same_bool false false e = refl

pub same_csd : (a b : Csd) → csd_by.ghosts.eq a b ≡ true → a ≡ b
same_csd (V1 a) (V1 b) e = ap V1 (eqb-true a b e)
same_csd (V2 a) (V2 b) e = ap V2 (eqb-true a b e)
same_csd (Mmc a) (Mmc b) e = ap Mmc (eqb-true a b e)
same_csd (V1 a) (V2 b) e = cc (e)
same_csd (V1 a) (Mmc b) e = cc (e)
same_csd (V2 a) (V1 b) e = cc (e)
same_csd (V2 a) (Mmc b) e = cc (e)
same_csd (Mmc a) (V1 b) e = cc (e)
same_csd (Mmc a) (V2 b) e = cc (e)

all_sizes : (a b : Sizes) → a.user ≡ b.user → a.boot ≡ b.boot → a.gp1 ≡ b.gp1 → a.gp2 ≡ b.gp2 → a.gp3 ≡ b.gp3
    → a.gp4 ≡ b.gp4 → a ≡ b
all_sizes a b user boot gp1 gp2 gp3 gp4 =
    λ i. record { user = user i; boot = boot i; gp1 = gp1 i; gp2 = gp2 i; gp3 = gp3 i; gp4 = gp4 i }

same_sizes : (a b : Sizes) → sizes_by.ghosts.eq a b ≡ true → a ≡ b
same_sizes a b e =
    let s0 = split (a.user == b.user) _ e in
    let s1 = split (a.boot == b.boot) _ s0.1 in
    let s2 = split (a.gp1 == b.gp1) _ s1.1 in
    let s3 = split (a.gp2 == b.gp2) _ s2.1 in
    let s4 = split (a.gp3 == b.gp3) _ s3.1 in
    all_sizes a b (eqb-true a.user b.user s0.0) (eqb-true a.boot b.boot s1.0) (eqb-true a.gp1 b.gp1 s2.0)
    (eqb-true a.gp2 b.gp2 s3.0) (eqb-true a.gp3 b.gp3 s4.0) (eqb-true a.gp4 b.gp4 s4.1)

pub same_info : (a b : Info) → by.ghosts.eq a b ≡ true → a ≡ b
same_info a b e =
    let s0 = split (kind_by.ghosts.eq a.kind b.kind) _ e in
    let s1 = split (addressing_by.ghosts.eq a.addressing b.addressing) _ s0.1 in
    let s2 = split (a.rca == b.rca) _ s1.1 in
    let s3 = split (cid_by.ghosts.eq a.cid b.cid) _ s2.1 in
    let s4 = split (csd_by.ghosts.eq a.csd b.csd) _ s3.1 in
    let s5 = split (sizes_by.ghosts.eq a.sizes b.sizes) _ s4.1 in
    let s6 = split (bool_by.ghosts.eq a.read_only b.read_only) _ s5.1 in
    let s7 = split (a.erase_unit == b.erase_unit) _ s6.1 in
    let s8 = split (a.erased_byte == b.erased_byte) _ s7.1 in
    let s9 = split (bool_by.ghosts.eq a.trims b.trims) _ s8.1 in
    let s10 = split (bool_by.ghosts.eq a.cmd23 b.cmd23) _ s9.1 in
    let s11 = split (width_by.ghosts.eq a.width b.width) _ s10.1 in
    same_fields a b (same_true kind_type (search rules) a.kind b.kind s0.0)
    (same_true addressing_type (search rules) a.addressing b.addressing s1.0) (eqb-true a.rca b.rca s2.0)
    (eqb-true a.cid b.cid s3.0) (same_csd a.csd b.csd s4.0) (same_sizes a.sizes b.sizes s5.0)
    (same_bool a.read_only b.read_only s6.0) (eqb-true a.erase_unit b.erase_unit s7.0)
    (eqb-true a.erased_byte b.erased_byte s8.0) (same_bool a.trims b.trims s9.0) (same_bool a.cmd23 b.cmd23 s10.0)
    (same_true width_type (search rules) a.width b.width s11.0)
    (same_true timing_type (search rules) a.timing b.timing s11.1)

-- By the card: its registers tell all of it.

alike_by : (kind : Kind) (x y : ℕ) (a b : Csd) → csd_of kind x ≡ Ok a → csd_of kind y ≡ Ok b → Above x y → AreAlike a b
alike_by kind x y a b one other same =
    subst (λ (r : Result Csd RegFault). AreReadAlike r (Ok b)) one
    (subst (AreReadAlike (csd_of kind x)) other (read_alike kind x y same))

-- one card tells CSDs that last as the same one
pub same_lasting : (limits : Lines) (made : Made) (a b : Info) → HasRegisters made → IsInfo limits made a → IsKnown limits made b
    → lasting_csd a.csd ≡ lasting_csd b.csd
same_lasting limits made a b registers one other =
    let x = csd_number_of (as_told one.says made) in
    let y = csd_number_of (as_told other.says made) in
    alike_lasting a.csd b.csd
    (alike_by made.kind x y a.csd b.csd (csd_read (as_told one.says made) a.csd (told_registers one.says made registers) one.csd)
    (csd_read (as_told other.says made) b.csd (told_registers other.says made registers) other.csd)
    (told_above one.says made registers ∙ sym (told_above other.says made registers)))

-- of an SD card default speed lasts, and of an eMMC device the timing that its registers name and the host can
same_timing : (limits : Lines) (made : Made) (kind other : Kind) (a b : Timing) → made.kind ≡ kind → kind ≡ other → IsTimingOver limits made a
    → IsTimingOver limits made b → lasting_timing kind a ≡ lasting_timing other b
same_timing limits made Is.Sd Is.Sd a b is same one two = refl
same_timing limits made Is.Mmc Is.Mmc a b is same (inl one) (inl two) = one ∙ sym two
same_timing limits made Is.Mmc Is.Mmc a b is same (inr one) two = cc (is, one.0)
same_timing limits made Is.Mmc Is.Mmc a b is same one (inr two) = cc (is, two.0)
same_timing limits made Is.Sd Is.Mmc a b is same one two = cc same
same_timing limits made Is.Mmc Is.Sd a b is same one two = cc same

-- what is used no more than the card has it is what is used of all
uses_of : (has used whole : Bool) → whole ≡ has → (used ≡ true → has ≡ true) → (whole && used) ≡ used
uses_of has true whole is no_more = rw (is, no_more refl) refl
uses_of has false true is no_more = refl
uses_of has false false is no_more = refl

pub known_info : (limits : Lines) (made : Made) (a b : Info) → IsInfo limits made a → IsKnown limits made b
    → lasting (used_as b a) ≡ lasting b
known_info limits made a b one other =
    same_fields (lasting (used_as b a)) (lasting b) (one.kind ∙ sym other.kind) (one.addressing ∙ sym other.addressing) refl
    (one.cid ∙ sym other.cid) refl
    (all_sizes a.sizes b.sizes (one.sizes User ∙ sym (other.sizes User)) (one.sizes Boot1 ∙ sym (other.sizes Boot1))
    (one.sizes Gp1 ∙ sym (other.sizes Gp1)) (one.sizes Gp2 ∙ sym (other.sizes Gp2))
    (one.sizes Gp3 ∙ sym (other.sizes Gp3)) (one.sizes Gp4 ∙ sym (other.sizes Gp4)))
    refl (one.erase_unit ∙ sym other.erase_unit)
    (one.erased_byte ∙ sym other.erased_byte) (uses_of _ b.trims a.trims one.trims other.trims)
    (uses_of _ b.cmd23 a.cmd23 one.cmd23 other.cmd23)
    (one.width ∙ sym other.width)
    (same_timing limits made a.kind b.kind a.timing b.timing (sym one.kind) (one.kind ∙ sym other.kind) one.timing
    other.timing)

-- What is the same is told to be.

joined : (x y : Bool) → x ≡ true → y ≡ true → (x && y) ≡ true
joined true true p q = refl
joined true false p q = cc (q)
joined false y p q = cc (p)

bool_is : (a : Bool) → bool_by.ghosts.eq a a ≡ true
bool_is true = refl
bool_is false = refl

csd_is : (a : Csd) → csd_by.ghosts.eq a a ≡ true
csd_is (V1 a) = eq-eqb a a refl
csd_is (V2 a) = eq-eqb a a refl
csd_is (Mmc a) = eq-eqb a a refl

sizes_is : (a : Sizes) → sizes_by.ghosts.eq a a ≡ true
sizes_is a =
    joined _ _ (eq-eqb a.user a.user refl)
    (joined _ _ (eq-eqb a.boot a.boot refl)
    (joined _ _ (eq-eqb a.gp1 a.gp1 refl)
    (joined _ _ (eq-eqb a.gp2 a.gp2 refl)
    (joined _ _ (eq-eqb a.gp3 a.gp3 refl) (eq-eqb a.gp4 a.gp4 refl)))))

info_is : (a : Info) → by.ghosts.eq a a ≡ true
info_is a =
    joined _ _ (true_same kind_type a.kind a.kind refl)
    (joined _ _ (true_same addressing_type a.addressing a.addressing refl)
    (joined _ _ (eq-eqb a.rca a.rca refl)
    (joined _ _ (eq-eqb a.cid a.cid refl)
    (joined _ _ (csd_is a.csd)
    (joined _ _ (sizes_is a.sizes)
    (joined _ _ (bool_is a.read_only)
    (joined _ _ (eq-eqb a.erase_unit a.erase_unit refl)
    (joined _ _ (eq-eqb a.erased_byte a.erased_byte refl)
    (joined _ _ (bool_is a.trims)
    (joined _ _ (bool_is a.cmd23)
    (joined _ _ (true_same width_type a.width a.width refl) (true_same timing_type a.timing a.timing refl))))))))))))

pub equal_info : (a b : Info) → a ≡ b → by.ghosts.eq a b ≡ true
equal_info a b e = subst (λ c. by.ghosts.eq a c ≡ true) e (info_is a)

pub equal_csd : (a b : Csd) → a ≡ b → csd_by.ghosts.eq a b ≡ true
equal_csd a b e = subst (λ c. csd_by.ghosts.eq a c ≡ true) e (csd_is a)
