-- How the parts of identification join.
use Rattle.std.proofs.Common.{Bool, List, ℕ, ◌+◌, ◌<◌, ◌∙◌, ◌≡◌, ◌≤◌, ap, false, inl, inr, refl, subst, sym, true}
use Rattle.std.proofs.lemmas.Result.{IfOk-from_err}
use Rattle.std.specs.Prelude.{Err, IfOk, IsErr, IsOk, IsOkAnd, Ok, Result, is_ok}
use Rattle.mmc_frame.specs.declared.card_state.State.{State}
use Rattle.mmc_frame.specs.declared.card_state.State.TheVariants.{Data, Dis, Ident, Idle, Prg, Rcv, Ready, Stby, Tran}
use Rattle.mmc_frame.specs.declared.kind.Kind.{Kind}
use Rattle.mmc_frame.specs.declared.kind.Kind.TheVariants.{Mmc, Sd}
use Rattle.mmc_card.specs.declared.exchange.Lines.{Lines}
use Rattle.mmc_card.specs.Blocks.{HasRested, rested}
use Rattle.mmc_card.specs.BusView.{BusView}
use Rattle.mmc_card.specs.Card.{Card, IsCard, is_in, is_selected, patience}
use Rattle.mmc_card.specs.Made.{IsToldCsd, Made, is_sd}
use Rattle.mmc_card.specs.Profile.{InProfile}
use Rattle.mmc_bus.specs.declared.cause.Cause.{Cause}
use Rattle.mmc_bus.specs.Learned.{Stays, may_fail}
use Rattle.mmc_bus.specs.Work.{Moved, Narrows, Worked}
use Rattle.mmc_bus.proofs.WorkLemmas.{both, moved_as, moved_none, moved_on, moved_then, quiet_parts, refuted}
use Rattle.mmc_identify.specs.Stages.{CanStart, HasTold, IsIdle, IsLeft, IsNamed, IsResting, IsSelected, IsTaken, Looks, echoes}
use Rattle.mmc_identify.specs.Stages.{IsRcaOf, IsResting, IsTaken, LooksAfter, RestsAfter, ready_ocr}
use Rattle.mmc_identify.specs.declared.fault.IdentFault.{IdentFault}
use Rattle.mmc_identify.specs.declared.identification.Registers.{Registers}
use Rattle.mmc_bus.specs.declared.status.Closing.{Closing}
use Rattle.mmc_bus.specs.declared.status.Closing.TheVariants.{AtWork, Clean}
use Rattle.std.proofs.Common.{arith}

-- Polls.

-- a card as CMD7 left it, or one that isn't selected any more, doesn't program
at_rest : (state : State) → (is_selected state ≡ true → state ≡ Tran) → is_in state Prg ≡ false
at_rest Idle tran = refl
at_rest Ready tran = refl
at_rest Ident tran = refl
at_rest Stby tran = refl
at_rest Tran tran = refl
at_rest Data tran = refl
at_rest Rcv tran = refl
at_rest Prg tran = cc (tran refl)
at_rest Dis tran = refl

-- nor does it accept blocks
accepts_none : (state : State) → (is_selected state ≡ true → state ≡ Tran) → is_in state Rcv ≡ false
accepts_none Idle tran = refl
accepts_none Ready tran = refl
accepts_none Ident tran = refl
accepts_none Stby tran = refl
accepts_none Tran tran = refl
accepts_none Data tran = refl
accepts_none Rcv tran = cc (tran refl)
accepts_none Prg tran = refl
accepts_none Dis tran = refl

rested_is : (old : Card) (polls : ℕ) → is_in old.state Prg ≡ false
    → rested (record old { polled = polls }) ≡ record old { is_busy = false; polled = polls }
rested_is old polls quiet = rw quiet refl

-- whether a card is busy, and how often it was polled, is no part of being selected
selected_still : (rca : ℕ) (polls : ℕ) (old new : Card) → new ≡ record old { is_busy = false; polled = polls }
    → IsSelected rca old → IsSelected rca new
selected_still rca polls old new e at =
    subst (IsSelected rca) (sym e)
    (record {
      state = at.state;
      is_rca = at.is_rca;
      part = at.part;
      width = at.width;
      timing = at.timing;
      erase_group_def = at.erase_group_def;
      count = at.count;
      app = at.app;
      erase = at.erase;
      command_errors = at.command_errors;
      errors = at.errors;
      switch_error = at.switch_error;
    })

looks_on : (rca : ℕ) (old new : Card)
    → (is_selected new.state ≡ true → may_fail old ≡ false → HasRested old new) → Looks rca old → Looks rca new
looks_on rca old new calm looks up =
    let quiet = at_rest old.state (λ was. (looks was).state) in
    let none = accepts_none old.state (λ was. (looks was).state) in
    let rests = calm up (rw (none, quiet) refl) in
    let e : new ≡ record old { is_busy = false; polled = rests.0 } = rests.1 ∙ rested_is old rests.0 quiet in
    selected_still rca rests.0 old new e (looks (ap (λ (c : Card). is_selected c.state) (sym e) ∙ up))

polled_out : (rca polls : ℕ) (old new : Card) → polls ≤ patience → new ≡ rested (record old { polled = polls })
    → IsTaken rca old → IsResting rca polls new
polled_out rca polls old new few is at =
    let e : new ≡ record old { is_busy = false; polled = polls } =
    is ∙ rested_is old polls (ap (λ (s : State). is_in s Prg) at.selected.state) in
    record {
      selected = selected_still rca polls old new e at.selected;
      rests = ap (λ (c : Card). c.is_busy) e;
      polled = ap (λ (c : Card). c.polled) e;
      few = few;
    }

abbrev pub Waits : ℕ → Result ℕ IdentFault → BusView → BusView → Type 0
Waits rca r a b =
    Moved (λ old new. IsOk r → Looks rca old.card → Looks rca new.card)
    (λ old new. IsTaken rca old.card → IsOkAnd r (λ polls. IsResting rca polls new.card)) a b

-- what the polls leave, by how many there were
polled_by : (rca : ℕ) (polls : Result ℕ Cause) (r : Result ℕ IdentFault) (old new : Card)
    → ((n : ℕ) → polls ≡ Ok n → r ≡ Ok n) → IsOkAnd polls (λ polls. (polls ≤ patience) × (new ≡ rested (record old { polled = polls }))) → IsTaken rca old
    → IsOkAnd r (λ polls. IsResting rca polls new)
polled_by rca (Ok polls) r old new same told at =
    subst (λ (r : Result ℕ IdentFault). IsOkAnd r (λ n. IsResting rca n new)) (sym (same polls refl))
    (polled_out rca polls old new told.0 told.1 at)
polled_by rca (Err cause) r old new same told at = absurd told

pub waited : {Own : BusView → BusView → Type 0} (rca : ℕ) (polls : Result ℕ Cause)
    (r : Result ℕ IdentFault) (a b : BusView) → ((n : ℕ) → polls ≡ Ok n → r ≡ Ok n) → is_ok r ≡ is_ok polls
    → (IsOk polls → is_selected b.card.state ≡ true → may_fail a.card ≡ false → HasRested a.card b.card)
    → Worked Narrows Own (λ old new. old.card.polled ≡ 0
    → IsOkAnd polls (λ polls. (polls ≤ patience) × (new.card ≡ rested (record old.card { polled = polls })))) a b
    → Waits rca r a b
waited rca polls r a b cases same calm p =
    moved_as a b p (λ ok. looks_on rca a.card b.card (calm (sym same ∙ ok)))
    (λ quiet at. polled_by rca polls r a.card b.card cases (p.fine quiet at.polled) at)

-- Statuses.

-- One status.
abbrev pub AsksStatus : Kind → ℕ → Result Closing IdentFault → BusView → BusView → Type 0
AsksStatus kind rca r a b =
    Moved (λ old new. Looks rca old.card → LooksAfter rca r new.card)
    (λ old new. InProfile old.card.made → old.card.made.kind ≡ kind → (waits : ℕ) → IsResting rca waits old.card
    → RestsAfter rca waits r new.card) a b

-- So many showed the card at work.
abbrev pub IsAtWorkStill : Kind → ℕ → ℕ → BusView → BusView → Type 0
IsAtWorkStill kind rca statuses a b =
    Moved (λ old new. Looks rca old.card → Looks rca new.card)
    (λ old new. InProfile old.card.made → old.card.made.kind ≡ kind → (waits : ℕ) → IsResting rca waits old.card
    → IsResting rca (waits + statuses) new.card) a b

abbrev pub Confirms : Kind → ℕ → ℕ → Result Unit IdentFault → BusView → BusView → Type 0
Confirms kind rca polls r a b =
    Moved (λ old new. Looks rca old.card → IsOk r → IsLeft rca new.card)
    (λ old new. InProfile old.card.made → old.card.made.kind ≡ kind → IsResting rca polls old.card → IsOk r) a b

-- a card is of the kind that it was
still_of : (kind : Kind) (a b : BusView) → Stays a b → a.card.made.kind ≡ kind → b.card.made.kind ≡ kind
still_of kind a b stays is = ap (λ (m : Made). m.kind) stays.carried.made ∙ is

pub no_status_yet : (kind : Kind) (rca : ℕ) (a : BusView) → a.is_kept ≡ true → IsCard a.card → IsAtWorkStill kind rca 0 a a
no_status_yet kind rca a kept card =
    moved_none a kept card (λ looks. looks)
    (λ profile of waits resting. subst (λ n. IsResting rca n a.card) (omega arith) resting)

-- the next one too
pub still_at_work : (kind : Kind) (rca statuses : ℕ) (a b c : BusView) → IsAtWorkStill kind rca statuses a b → AsksStatus kind rca (Ok AtWork) b c
    → IsAtWorkStill kind rca (statuses + 1) a c
still_at_work kind rca statuses a b c p q =
    moved_then a b c p q (λ looks. q.own (p.own looks))
    (λ same profile of waits resting.
    let parts = quiet_parts a b c p.stays q.stays same in
    let was = p.fine parts.0 profile of waits resting in
    let sum : waits + statuses + 1 ≡ waits + (statuses + 1) = omega arith in
    subst (λ n. IsResting rca n c.card) sum
    (q.fine parts.1 (subst InProfile (sym p.stays.carried.made) profile) (still_of kind a b p.stays of) (waits + statuses) was))

-- it is clean
pub found_clean : (kind : Kind) (rca polls statuses : ℕ) (a b c : BusView) → IsAtWorkStill kind rca statuses a b → AsksStatus kind rca (Ok Clean) b c
    → Confirms kind rca polls (Ok tt) a c
found_clean kind rca polls statuses a b c p q =
    moved_then a b c p q (λ looks ok. q.own (p.own looks)) (λ same profile of resting. refl)

-- none comes, or one with an error
pub asked_in_vain : (kind : Kind) (rca polls statuses : ℕ) (fault : IdentFault) (r : Result Unit IdentFault) (a b c : BusView) → IsErr r
    → IsAtWorkStill kind rca statuses a b → AsksStatus kind rca (Err fault) b c → Confirms kind rca polls r a c
asked_in_vain kind rca polls statuses fault r a b c err p q =
    moved_then a b c p q (λ looks ok. refuted r err ok)
    (λ same profile of resting.
    let parts = quiet_parts a b c p.stays q.stays same in
    let was = p.fine parts.0 profile of polls resting in
    absurd (q.fine parts.1 (subst InProfile (sym p.stays.carried.made) profile) (still_of kind a b p.stays of) (polls + statuses) was))

-- so many times at work take a fault
pub asked_too_often : (kind : Kind) (rca polls statuses : ℕ) (r : Result Unit IdentFault) (a b : BusView) → IsErr r
    → patience < polls + statuses → IsAtWorkStill kind rca statuses a b → Confirms kind rca polls r a b
asked_too_often kind rca polls statuses r a b err many p =
    moved_as a b p (λ looks ok. refuted r err ok)
    (λ same profile of resting. let few = (p.fine same profile of polls resting).few in absurd (omega (arith, few, many)))

-- From stby to tran.

abbrev pub Selects : ℕ → Result Unit IdentFault → BusView → BusView → Type 0
Selects rca r a b =
    Moved (λ old new. IsOk r → Looks rca new.card)
    (λ old new. InProfile old.card.made → IsNamed rca old.card → IsOk r × IsTaken rca new.card) a b

abbrev pub Takes : Kind → ℕ → Result Unit IdentFault → BusView → BusView → Type 0
Takes kind rca r a b =
    Moved (λ old new. IsOk r → IsLeft rca new.card)
    (λ old new. InProfile old.card.made → old.card.made.kind ≡ kind → IsNamed rca old.card → IsOk r) a b

pub taken : (kind : Kind) (rca polls : ℕ) (r : Result Unit IdentFault) (a b c d : BusView) → Selects rca (Ok tt) a b
    → Waits rca (Ok polls) b c → Confirms kind rca polls r c d → Takes kind rca r a d
taken kind rca polls r a b c d p q s =
    let pair = both a b c p q in
    let all = both a c d pair s in
    moved_as a d all (λ ok. s.own (q.own refl (p.own refl)) ok)
    (λ same profile of at.
    let f = all.fine same in
    f.1 (subst InProfile (sym pair.stays.carried.made) profile) (still_of kind a c pair.stays of) (f.0.1 (f.0.0 profile at).1))

pub take_fails : (kind : Kind) (rca : ℕ) (fault : IdentFault) (r : Result Unit IdentFault) (a b c : BusView) → IsErr r
    → Selects rca (Ok tt) a b → Waits rca (Err fault) b c → Takes kind rca r a c
take_fails kind rca fault r a b c err p q =
    let pair = both a b c p q in
    moved_as a c pair (λ ok. refuted r err ok) (λ same profile of at. let f = pair.fine same in absurd (f.1 (f.0 profile at).1))

-- From idle to ready.

abbrev pub Resets : BusView → BusView → Type 0
Resets a b = Moved (λ old new. Unit {0}) (λ old new. IsIdle false false 0 new.card) a b

abbrev pub Announces : Result Bool IdentFault → BusView → BusView → Type 0
Announces r a b =
    Moved (λ old new. r ≡ Ok true → old.card.made.kind ≡ Sd)
    (λ old new. (accepted : Bool) (times : ℕ) → IsIdle accepted false times old.card
    → (r ≡ Ok (is_sd old.card.made.kind)) × IsIdle accepted (is_sd old.card.made.kind) times new.card) a b

abbrev pub StartsSd : Bool → Result ℕ IdentFault → BusView → BusView → Type 0
StartsSd hcs r a b =
    Moved (λ old new. IfOk r (λ ocr. (old.card.made.kind ≡ Sd) × (ocr ≡ ready_ocr old.card.made)))
    (λ old new. InProfile old.card.made → CanStart old.card.made hcs → old.card.made.kind ≡ Sd
    → IsIdle hcs true 0 old.card → (r ≡ Ok (ready_ocr old.card.made)) × (new.card.state ≡ Ready)) a b

abbrev pub StartsMmc : Result ℕ IdentFault → BusView → BusView → Type 0
StartsMmc r a b =
    Moved (λ old new. IfOk r (λ ocr. (old.card.made.kind ≡ Mmc) × (ocr ≡ ready_ocr old.card.made)))
    (λ old new. InProfile old.card.made → old.card.made.kind ≡ Mmc
    → IsIdle false false 0 old.card → (r ≡ Ok (ready_ocr old.card.made)) × (new.card.state ≡ Ready)) a b

abbrev pub Starts : Bool → Result (Kind × ℕ) IdentFault → BusView → BusView → Type 0
Starts hcs r a b =
    Moved (λ old new. IfOk r (λ told. (told.0 ≡ old.card.made.kind) × (told.1 ≡ ready_ocr old.card.made)))
    (λ old new. InProfile old.card.made → CanStart old.card.made hcs → IsIdle hcs false 0 old.card
    → (r ≡ Ok (old.card.made.kind, ready_ocr old.card.made)) × (new.card.state ≡ Ready)) a b

-- what the inquiries gave is given with the kind
abbrev pub Gives : Kind → Result ℕ IdentFault → Result (Kind × ℕ) IdentFault → Type 0
Gives kind (Ok ocr) r = r ≡ Ok (kind, ocr)
Gives kind (Err fault) r = IsErr r

gives_own : (kind : Kind) (told : Result ℕ IdentFault) (r : Result (Kind × ℕ) IdentFault) (was made : Made)
    → Gives kind told r → was ≡ made → IfOk told (λ ocr. (was.kind ≡ kind) × (ocr ≡ ready_ocr was))
    → IfOk r (λ pair. (pair.0 ≡ made.kind) × (pair.1 ≡ ready_ocr made))
gives_own kind (Ok ocr) r was made e same own =
    subst (λ x. IfOk x (λ pair. (pair.0 ≡ made.kind) × (pair.1 ≡ ready_ocr made))) (sym e)
    (sym own.0 ∙ ap (λ (m : Made). m.kind) same, own.1 ∙ ap ready_ocr same)
gives_own kind (Err fault) r was made err same own = IfOk-from_err r _ err

gives_fine : (kind : Kind) (told : Result ℕ IdentFault) (r : Result (Kind × ℕ) IdentFault) (made : Made)
    → Gives kind told r → made.kind ≡ kind → told ≡ Ok (ready_ocr made) → r ≡ Ok (made.kind, ready_ocr made)
gives_fine kind (Ok ocr) r made e is h = e ∙ cc (is, h)
gives_fine kind (Err fault) r made err is h = cc h

sd_by : (kind : Kind) → (let r : Result Bool IdentFault = Ok true in r ≡ Ok (is_sd kind)) → kind ≡ Sd
sd_by Sd h = refl
sd_by Mmc h = cc h

mmc_by : (kind : Kind) → (let r : Result Bool IdentFault = Ok false in r ≡ Ok (is_sd kind)) → kind ≡ Mmc
mmc_by Sd h = cc h
mmc_by Mmc h = refl

pub announce_fails : (hcs : Bool) (fault : IdentFault) (r : Result (Kind × ℕ) IdentFault) (a b : BusView) → IsErr r
    → Announces (Err fault) a b → Starts hcs r a b
announce_fails hcs fault r a b err p =
    moved_as a b p (IfOk-from_err r _ err) (λ same profile can idle. cc (p.fine same hcs 0 idle).0)

pub started_sd : (hcs : Bool) (told : Result ℕ IdentFault) (r : Result (Kind × ℕ) IdentFault) (a b c : BusView)
    → Gives Sd told r → Announces (Ok true) a b → StartsSd hcs told b c → Starts hcs r a c
started_sd hcs told r a b c gives p q =
    let pair = both a b c p q in
    let made = p.stays.carried.made in
    let back = sym made in
    moved_as a c pair (gives_own Sd told r b.card.made a.card.made gives made q.own)
    (λ same profile can idle.
    let f = pair.fine same in
    let now = f.0 hcs 0 idle in
    let sd = sd_by a.card.made.kind now.0 in
    let t = f.1 (subst InProfile back profile) (subst (λ m. CanStart m hcs) back can)
    (subst (λ (m : Made). m.kind ≡ Sd) back sd) (subst (λ app. IsIdle hcs app 0 b.card) (ap is_sd sd) now.1) in
    (gives_fine Sd told r a.card.made gives sd (t.0 ∙ ap (λ m. Ok (ready_ocr m)) made), t.1))

pub started_mmc : (hcs : Bool) (told : Result ℕ IdentFault) (r : Result (Kind × ℕ) IdentFault) (a b c d : BusView)
    → Gives Mmc told r → Announces (Ok false) a b → Resets b c → StartsMmc told c d → Starts hcs r a d
started_mmc hcs told r a b c d gives p q s =
    let pair = both a b c p q in
    let all = both a c d pair s in
    let made = pair.stays.carried.made in
    let back = sym made in
    moved_as a d all (gives_own Mmc told r c.card.made a.card.made gives made s.own)
    (λ same profile can idle.
    let f = all.fine same in
    let mmc = mmc_by a.card.made.kind (f.0.0 hcs 0 idle).0 in
    let t = f.1 (subst InProfile back profile) (subst (λ (m : Made). m.kind ≡ Mmc) back mmc) f.0.1 in
    (gives_fine Mmc told r a.card.made gives mmc (t.0 ∙ ap (λ m. Ok (ready_ocr m)) made), t.1))

-- From anywhere to ready.

abbrev pub Probes : Result Bool IdentFault → BusView → BusView → Type 0
Probes r a b =
    Moved (λ old new. Unit {0})
    (λ old new. IsIdle false false 0 old.card
    → (r ≡ Ok (echoes old.card.made)) × IsIdle (echoes old.card.made) false 0 new.card) a b

abbrev pub Begins : Result (Kind × ℕ) IdentFault → BusView → BusView → Type 0
Begins r a b =
    Moved (λ old new. IfOk r (λ told. (told.0 ≡ old.card.made.kind) × (told.1 ≡ ready_ocr old.card.made)))
    (λ old new. InProfile old.card.made
    → (r ≡ Ok (old.card.made.kind, ready_ocr old.card.made)) × (new.card.state ≡ Ready)) a b

lined : (a b : BusView) (lines : Lines) → Resets a b → Resets a (record b { lines = lines })
lined a b lines p =
    moved_on a b lines p tt
    (λ same. let f = p.fine same in record { state = f.state; told = f.told; app = f.app; inquiries = f.inquiries })

pub reset_on_lines : (a b c : BusView) (lines : Lines) → c ≡ record b { lines = lines }
    → (b.is_kept ≡ true → Resets a b) → c.is_kept ≡ true → Resets a c
reset_on_lines a b c lines e p kept =
    subst (Resets a) (sym e) (lined a b lines (p (ap (λ (v : BusView). v.is_kept) (sym e) ∙ kept)))

-- a card in profile that repeats what CMD8 tells it may have sector addresses, and no other may
can_start : (made : Made) → InProfile made → CanStart made (echoes made)
can_start made profile sd sectors =
    elim (profile.sd sd).capacity [
      | inl standard ↦ cc (standard.ccs, sectors)
      | inr high ↦ rw sd high.told
    ]

pub probe_fails : (fault : IdentFault) (r : Result (Kind × ℕ) IdentFault) (a b c : BusView) → IsErr r → Resets a b
    → Probes (Err fault) b c → Begins r a c
probe_fails fault r a b c err p q =
    let pair = both a b c p q in
    moved_as a c pair (IfOk-from_err r _ err)
    (λ same profile. let f = pair.fine same in cc (f.1 f.0).0)

pub begun : (hcs : Bool) (r : Result (Kind × ℕ) IdentFault) (a b c d : BusView) → Resets a b → Probes (Ok hcs) b c
    → Starts hcs r c d → Begins r a d
begun hcs r a b c d p q s =
    let pair = both a b c p q in
    let all = both a c d pair s in
    let made = pair.stays.carried.made in
    moved_as a d all
    (subst (λ (m : Made). IfOk r (λ told. (told.0 ≡ m.kind) × (told.1 ≡ ready_ocr m))) made s.own)
    (λ same profile.
    let f = all.fine same in
    let probed = f.0.1 f.0.0 in
    let there = subst InProfile (sym made) profile in
    let is : hcs ≡ echoes b.card.made = (let e = probed.0 in cc e) in
    let echo = is ∙ ap echoes (sym q.stays.carried.made) in
    let t = f.1 there (subst (CanStart c.card.made) (sym echo) (can_start c.card.made there))
    (subst (λ accepted. IsIdle accepted false 0 c.card) (sym is) probed.1) in
    (subst (λ (m : Made). r ≡ Ok (m.kind, ready_ocr m)) made t.0, t.1))

-- From ready to stby: CID, RCA and CSD.

abbrev pub Names : Result (List ℕ) IdentFault → BusView → BusView → Type 0
Names r a b =
    Moved (λ old new. IfOk r (λ cid. cid ≡ old.card.made.cid))
    (λ old new. old.card.state ≡ Ready → (r ≡ Ok old.card.made.cid) × (new.card.state ≡ Ident)) a b

abbrev pub Addresses : Kind → Result ℕ IdentFault → BusView → BusView → Type 0
Addresses kind r a b =
    Moved (λ old new. old.card.made.kind ≡ kind → IfOk r (λ rca. IsRcaOf old.card.made rca))
    (λ old new. InProfile old.card.made → old.card.made.kind ≡ kind → old.card.state ≡ Ident
    → IsOkAnd r (λ rca. IsNamed rca new.card)) a b

abbrev pub Describes : ℕ → Result (List ℕ) IdentFault → BusView → BusView → Type 0
Describes rca r a b =
    Moved (λ old new. IfOk r (λ csd. IsToldCsd old.card.made csd))
    (λ old new. IsNamed rca old.card → IsOk r × IsNamed rca new.card) a b

abbrev pub IsRegistered : Kind → Result Registers IdentFault → BusView → BusView → Type 0
IsRegistered kind r a b =
    Moved (λ old new. old.card.made.kind ≡ kind → IfOk r (λ registers. HasTold old.card.made registers))
    (λ old new. InProfile old.card.made → old.card.made.kind ≡ kind → old.card.state ≡ Ready
    → IsOkAnd r (λ registers. IsNamed registers.rca new.card)) a b

pub address_fails : (kind : Kind) (cid : List ℕ) (fault : IdentFault) (r : Result Registers IdentFault)
    (a b c : BusView) → IsErr r → Names (Ok cid) a b → Addresses kind (Err fault) b c → IsRegistered kind r a c
address_fails kind cid fault r a b c err p q =
    let pair = both a b c p q in
    let back = sym p.stays.carried.made in
    moved_as a c pair (λ is. IfOk-from_err r _ err)
    (λ same profile is ready.
    let f = pair.fine same in
    absurd (f.1 (subst InProfile back profile) (subst (λ (m : Made). m.kind ≡ kind) back is) (f.0 ready).1))

-- the CSD is told to the RCA that was told, or not
described : (kind : Kind) (cid : List ℕ) (rca : ℕ) (r : Result (List ℕ) IdentFault) (a b c d : BusView)
    → Names (Ok cid) a b → Addresses kind (Ok rca) b c → Describes rca r c d
    → Moved (λ old new. old.card.made.kind ≡ kind
    → (cid ≡ old.card.made.cid) × IsRcaOf old.card.made rca × IfOk r (λ csd. IsToldCsd old.card.made csd))
    (λ old new. InProfile old.card.made → old.card.made.kind ≡ kind → old.card.state ≡ Ready
    → IsOk r × IsNamed rca new.card) a d
described kind cid rca r a b c d p q s =
    let pair = both a b c p q in
    let all = both a c d pair s in
    let made = p.stays.carried.made in
    let is_kind : a.card.made.kind ≡ kind → b.card.made.kind ≡ kind =
    λ is. subst (λ (m : Made). m.kind ≡ kind) (sym made) is in
    let told : a.card.made.kind ≡ kind → IsRcaOf a.card.made rca =
    λ is. subst (λ m. IsRcaOf m rca) made (q.own (is_kind is)) in
    moved_as a d all
    (λ is. (
      p.own,
      told is,
      subst (λ (m : Made). IfOk r (λ csd. IsToldCsd m csd)) pair.stays.carried.made s.own,
    ))
    (λ same profile is ready.
    let f = all.fine same in
    let named = f.0.1 (subst InProfile (sym made) profile) (is_kind is) (f.0.0 ready).1 in
    f.1 named)

pub describe_fails : (kind : Kind) (cid : List ℕ) (rca : ℕ) (fault : IdentFault) (r : Result Registers IdentFault)
    (a b c d : BusView) → IsErr r → Names (Ok cid) a b → Addresses kind (Ok rca) b c
    → Describes rca (Err fault) c d → IsRegistered kind r a d
describe_fails kind cid rca fault r a b c d err p q s =
    let all = described kind cid rca (Err fault) a b c d p q s in
    moved_as a d all (λ is. IfOk-from_err r _ err) (λ same profile is ready. cc (all.fine same profile is ready).0)

pub registered : (kind : Kind) (cid csd : List ℕ) (rca : ℕ) (a b c d : BusView) → Names (Ok cid) a b
    → Addresses kind (Ok rca) b c → Describes rca (Ok csd) c d
    → IsRegistered kind (Ok (record { cid = cid; rca = rca; csd = csd })) a d
registered kind cid csd rca a b c d p q s =
    let all = described kind cid rca (Ok csd) a b c d p q s in
    moved_as a d all (λ is. let o = all.own is in record { cid = o.0; rca = o.1; csd = o.2 })
    (λ same profile is ready. (all.fine same profile is ready).1)
