-- What is noted of a card, and what a note says.
use Rattle.std.specs.Prelude.{◌&&◌, ◌==◌, ◌≡◌, Bool, Err, List, Ok, Option, Result, if◌then◌else◌, false, length, nat_le, true, ℕ}
use mathlib.Core.HLevel.{is_prop→PathP, Π_prop}
use native.Mathlib.Bridge.{le_prop}
use Rattle.std.proofs.Common.{◌∙◌, ◌≤◌, Some, ap, le-leb, refl, subst, sym}
use Rattle.std.specs.Int.{bytes_high_first}
use Rattle.std.specs.Result.{result_ok}
use Rattle.mmc_frame.specs.Flips.{AreBytes}
use Rattle.mmc_frame.specs.RegisterFrame.{has_end_bit, is_sound_register}
use Rattle.mmc_frame.specs.declared.kind.Kind.{Kind}
use Rattle.mmc_frame.specs.declared.kind.Kind.TheVariants.{Mmc, Sd}
use Rattle.mmc_regs.specs.Csd.{csd_from, csd_in, csd_number, csd_of, has_block_length}
use Rattle.mmc_regs.specs.CsdFields.{csd_structure, read_bl_len, write_bl_len}
use Rattle.mmc_regs.specs.Register.{checked_number, register_number}
use Rattle.mmc_regs.specs.declared.csd.Csd.{Csd}
use Rattle.mmc_regs.specs.declared.csd.Csd.TheVariants.{V1, V2}
use Rattle.mmc_regs.specs.declared.fault.RegFault.{RegFault}
use Rattle.mmc_regs.specs.declared.fault.RegFault.TheVariants.{Range, Structure}
use Rattle.mmc_card.proofs.ToldLemmas.{told_registers}
use Rattle.mmc_card.specs.Made.{HasRegisters, Made, csd_told}
use Rattle.mmc_card.specs.declared.exchange.Lines.{Lines}
use Rattle.mmc_switch.specs.Info.{IsKnown}
use Rattle.mmc_switch.specs.declared.info.Info.{Info}
use Rattle.mmc_frame.specs.declared.addressing.Addressing.{Addressing}
use Rattle.mmc_ext_csd.specs.Partition.{addressable_sectors, existing_sectors}
use Rattle.mmc_card.specs.declared.part.Part.{Part}
use Rattle.mmc_card.specs.declared.part.Part.TheVariants.{Boot1, Boot2, Gp1, Gp2, Gp3, Gp4, User}
use Rattle.mmc_bus.specs.declared.cause.Cause.{Cause}
use Rattle.mmc_switch.specs.Sizes.{size_of}
use Rattle.mmc_switch.specs.UnderWay.{broken_off}
use Rattle.mmc_switch.specs.declared.broken.Broken.{Broken}
use Rattle.mmc_switch.specs.declared.session.Session.{Session}
use Rattle.mmc_switch.specs.declared.stands.Stands.{Stands}
use Rattle.mmc_switch.specs.declared.stands.Stands.TheVariants as Stands
use Rattle.mmc_switch.specs.declared.sizes.Sizes.{Sizes}
use Rattle.mmc_record.specs.Note.{HasChecks, IsNoteOf, SaysInfo, SaysSession, given_up, stands_by, what_is_left}
use Rattle.mmc_record.specs.Numbers.{cause_of, part_of}
use Rattle.mmc_record.specs.declared.record.CardRecord.{CardRecord}
use Rattle.mmc_record.proofs.ByteLemmas.{bytes_of_number}

-- The register whose bytes have their check is read as its number.
checked : (register : List ℕ) → is_sound_register register ≡ true → has_end_bit register ≡ true
    → checked_number register ≡ Ok (register_number register)
checked register sound end = rw (sound, end) refl

again : (register : List ℕ) → length register ≡ 16 → AreBytes register
    → bytes_high_first 16 (register_number register) ≡ register
again register long are = bytes_of_number 16 register long are

-- The number of a CSD, or this one where there is none.
abbrev number_or : ℕ → Result Csd RegFault → ℕ
number_or number (Ok csd) = csd_number csd
number_or number (Err fault) = number

of_sd : (first long second : Bool) (number : ℕ)
    → number_or number (if first then (if long then Ok (V1 number) else Err Range)
    else (if second then Ok (V2 number) else Err Structure)) ≡ number
of_sd true true second number = refl
of_sd true false second number = refl
of_sd false long true number = refl
of_sd false long false number = refl

of_kind : (kind : Kind) (number : ℕ) → number_or number (csd_of kind number) ≡ number
of_kind Sd number =
    of_sd (csd_structure number == 0) (has_block_length (read_bl_len number) && has_block_length (write_bl_len number))
    (csd_structure number == 1) number
of_kind Mmc number = refl

-- The number of a CSD is the number that it was read of.
number_of : (kind : Kind) (number : ℕ) (csd : Csd) → csd_of kind number ≡ Ok csd → csd_number csd ≡ number
number_of kind number csd e = sym (ap (number_or number) e) ∙ of_kind kind number

pub card_checks : (limits : Lines) (made : Made) (info : Info) → HasRegisters made → IsKnown limits made info → HasChecks info
card_checks limits made info registers is =
    let cid : checked_number made.cid ≡ Ok (register_number made.cid) =
    checked made.cid registers.cid_check registers.cid_end in
    let told = csd_told is.says made in
    let takes = told_registers is.says made registers in
    let csd : checked_number told ≡ Ok (register_number told) = checked told takes.csd_check takes.csd_end in
    let read : csd_of made.kind (register_number told) ≡ Ok info.csd = sym (ap (csd_from made.kind) csd) ∙ is.csd in
    let number = number_of made.kind (register_number told) info.csd read in
    record {
      cid = ap checked_number (ap (bytes_high_first 16) is.cid ∙ again made.cid registers.cid registers.cid_bytes)
          ∙ cid ∙ ap Ok (sym is.cid);
      csd = ap (λ kind. csd_in kind (bytes_high_first 16 (csd_number info.csd))) is.kind
          ∙ ap (csd_in made.kind) (ap (bytes_high_first 16) number ∙ again told takes.csd takes.csd_bytes) ∙ is.csd;
    }

-- What a fact says of each partition.
pub each_part : (P : Part → Type 0) → P User → P Boot1 → P Boot2 → P Gp1 → P Gp2 → P Gp3 → P Gp4 → (part : Part) → P part
each_part P user boot1 boot2 gp1 gp2 gp3 gp4 User = user
each_part P user boot1 boot2 gp1 gp2 gp3 gp4 Boot1 = boot1
each_part P user boot1 boot2 gp1 gp2 gp3 gp4 Boot2 = boot2
each_part P user boot1 boot2 gp1 gp2 gp3 gp4 Gp1 = gp1
each_part P user boot1 boot2 gp1 gp2 gp3 gp4 Gp2 = gp2
each_part P user boot1 boot2 gp1 gp2 gp3 gp4 Gp3 = gp3
each_part P user boot1 boot2 gp1 gp2 gp3 gp4 Gp4 = gp4

within_bound : (size bound : ℕ) → size ≤ bound → (if nat_le size bound then size else 0) ≡ size
within_bound size bound within = rw (le-leb size bound within) refl

-- A partition that commands can address as a whole exists as it is.
exists : (size : ℕ) (addressing : Addressing) → size ≤ addressable_sectors addressing
    → existing_sectors size addressing ≡ size
exists size addressing within = within_bound size (addressable_sectors addressing) within

-- The size that is noted of a card's partition is read as it is.
pub exists_as_noted : (info : Info) (part : Part) (number : ℕ) (addressing : Addressing) → addressing ≡ info.addressing
    → number ≡ size_of info.sizes part → existing_sectors number addressing ≡ size_of info.sizes part
exists_as_noted info part number addressing same is =
    ap (existing_sectors number) same ∙ ap (λ size. existing_sectors size info.addressing) is
    ∙ exists (size_of info.sizes part) info.addressing (info.addressable part)

pub ok_in : {X E : Type 0} (r : Result X E) (x : X) → ◌≡◌ {A = Option X} (Some x) (result_ok r) → r ≡ Ok x
ok_in (Ok y) x e = cc (e)
ok_in (Err fault) x e = cc (e)

-- Two who are the same to the numbers are the same.

abbrev value : {X E : Type 0} → X → Result X E → X
value x (Ok y) = y
value x (Err fault) = x

same_ok : {X E : Type 0} {x y : X} → ◌≡◌ {A = Result X E} (Ok x) (Ok y) → x ≡ y
same_ok {X = X} {E = E} {x = x} e = ap (λ (r : Result X E). value x r) e

same_sizes : (a b : Sizes) → ((part : Part) → size_of a part ≡ size_of b part) → a ≡ b
same_sizes a b same = λ i. record {
  user = same User i;
  boot = same Boot1 i;
  gp1 = same Gp1 i;
  gp2 = same Gp2 i;
  gp3 = same Gp3 i;
  gp4 = same Gp4 i;
}

-- By its fields; of the facts that each keeps there is one proof at most.
one_info : (note : CardRecord) (a b : Info) → SaysInfo note a → SaysInfo note b → a ≡ b
one_info note a b x y =
    let addressing = sym x.addressing ∙ y.addressing in
    let sizes = same_sizes a.sizes b.sizes (λ part. sym (x.sizes part) ∙ y.sizes part) in
    let unit = sym x.erase_unit ∙ y.erase_unit in
    λ i. record {
      kind = (sym x.kind ∙ y.kind) i;
      addressing = addressing i;
      rca = (sym x.rca ∙ y.rca) i;
      cid = same_ok (sym x.cid ∙ y.cid) i;
      csd = same_ok (sym x.csd ∙ y.csd) i;
      sizes = sizes i;
      read_only = (sym x.read_only ∙ y.read_only) i;
      erase_unit = unit i;
      erased_byte = (sym x.erased_byte ∙ y.erased_byte) i;
      trims = (sym x.trims ∙ y.trims) i;
      cmd23 = (sym x.cmd23 ∙ y.cmd23) i;
      width = (sym x.width ∙ y.width) i;
      timing = (sym x.timing ∙ y.timing) i;
      addressable = is_prop→PathP (λ j. (part : Part) → size_of (sizes j) part ≤ addressable_sectors (addressing j))
          (λ j. Π_prop (λ part. le_prop)) a.addressable b.addressable i;
      some_unit = is_prop→PathP (λ j. 1 ≤ unit j) (λ j. le_prop) a.some_unit b.some_unit i;
    }

one_session : (note : CardRecord) (a b : Session) → SaysSession note a → SaysSession note b → a ≡ b
one_session note a b x y = λ i. record {
  info = one_info note a.info b.info x.info y.info i;
  partition_config = (sym x.partition_config ∙ y.partition_config) i;
  selected = (sym x.selected ∙ y.selected) i;
}

pub says_session : (note : CardRecord) (session : Session) (info : Info) (part : Option Part) → SaysInfo note info
    → part ≡ part_of note.selected
    → session ≡ record { info = info; partition_config = note.partition_config; selected = part } → SaysSession note session
says_session note session info part says selected is = record {
  info = subst (SaysInfo note) (sym (ap (λ (s : Session). s.info) is)) says;
  partition_config = sym (ap (λ (s : Session). s.partition_config) is);
  selected = sym selected ∙ sym (ap (λ (s : Session). s.selected) is);
}

-- What stands by the numbers is what they are a note of.
pub as_noted : (note : CardRecord) (session : Session) (is stands : Stands) → SaysSession note session
    → stands_by note.state session (cause_of note.cause) ≡ Some is → IsNoteOf stands note
    → ◌≡◌ {A = Option Stands} (Some is) (Some stands)
as_noted note session is stands says how noted =
    sym how ∙ ap (λ s. stands_by note.state s (cause_of note.cause)) (one_session note session noted.session says noted.says)
    ∙ noted.how

-- How the card stands by each state.

pub stands_ready : (note : CardRecord) (session : Session) → note.state ≡ 1
    → stands_by note.state session (cause_of note.cause) ≡ Some (Stands.Ready session)
stands_ready note session state = rw state refl

pub stands_broken : (note : CardRecord) (session : Session) (broken : Broken) (cause : Cause) → note.state ≡ 2
    → cause ≡ cause_of note.cause → broken ≡ broken_off session cause
    → stands_by note.state session (cause_of note.cause) ≡ Some (Stands.Broken broken)
stands_broken note session broken cause state by is = rw state (ap (λ b. Some (Stands.Broken b)) (sym (is ∙ ap (broken_off session) by)))

pub stands_lost : (note : CardRecord) (session : Session) (broken lost : Broken) (cause : Cause) → note.state ≡ 3
    → broken ≡ broken_off session cause → lost ≡ given_up broken.session
    → stands_by note.state session (cause_of note.cause) ≡ Some (Stands.Broken lost)
stands_lost note session broken lost cause state is given =
    rw state (ap (λ b. Some (Stands.Broken b)) (sym (given ∙ ap (λ (b : Broken). given_up b.session) is)))

-- A broken card's session, with the state and the cause of what failed, is a note of what is left.

how_left : (state : ℕ) (broken : Broken) → (must : Bool) → broken.must_reset ≡ must → state ≡ (if must then 3 else 2)
    → stands_by state broken.session broken.cause ≡ Some (Stands.Broken (what_is_left broken))
how_left state broken true must is = rw (is, must) refl
how_left state broken false must is = rw (is, must) refl

pub note_of_broken : (note : CardRecord) (broken : Broken) → SaysSession note broken.session
    → cause_of note.cause ≡ broken.cause → note.state ≡ (if broken.must_reset then 3 else 2)
    → IsNoteOf (Stands.Broken (what_is_left broken)) note
note_of_broken note broken says cause state = record {
  session = broken.session;
  says = says;
  how = ap (stands_by note.state broken.session) cause ∙ how_left note.state broken broken.must_reset refl state;
}
