-- How inquiries follow one another, and how they end.
use Rattle.std.proofs.Common.{◌+◌, ◌<◌, ◌∙◌, ◌≡◌, ◌≤◌, Bool, ap, arith, false, refl, subst, sym, true, ℕ}
use Rattle.std.proofs.lemmas.Result.{IfOk-at_ok, IfOk-from_err}
use Rattle.std.specs.Prelude.{Err, IfOk, IsErr, None, Ok, Option, Result, Some}
use Rattle.mmc_frame.specs.declared.card_state.State.TheVariants.{Ready}
use Rattle.mmc_frame.specs.declared.kind.Kind.{Kind}
use Rattle.mmc_frame.specs.declared.kind.Kind.TheVariants.{Mmc, Sd}
use Rattle.mmc_card.specs.BusView.{BusView}
use Rattle.mmc_card.specs.Card.{IsCard, patience}
use Rattle.mmc_card.specs.Faults.{NoFault}
use Rattle.mmc_card.specs.Made.{Made, is_sd}
use Rattle.mmc_card.specs.Profile.{InProfile}
use Rattle.mmc_bus.proofs.WorkLemmas.{moved_as, moved_none, moved_then, quiet_parts}
use Rattle.mmc_bus.specs.Learned.{Stays}
use Rattle.mmc_bus.specs.Work.{Anything, Moved}
use Rattle.mmc_identify.specs.Stages.{CanStart, Inquired, IsIdle, ready_ocr}
use Rattle.mmc_identify.specs.declared.fault.IdentFault.{IdentFault}

-- an OCR is that of a ready card of this kind
abbrev pub IsReadyOcr : Kind → ℕ → Made → Type 0
IsReadyOcr kind ocr made = (made.kind ≡ kind) × (ocr ≡ ready_ocr made)

abbrev pub TellsOcr : Kind → Result (Option ℕ) IdentFault → BusView → BusView → Type 0
TellsOcr kind result old new = (ocr : ℕ) → result ≡ Ok (Some ocr) → IsReadyOcr kind ocr old.card.made

abbrev pub GivesOcr : Kind → Result ℕ IdentFault → BusView → BusView → Type 0
GivesOcr kind result old new = IfOk result (λ ocr. IsReadyOcr kind ocr old.card.made)

-- One inquiry of a card of this kind, after CMD55 or not.
abbrev pub Asks : Bool → Kind → Bool → Result (Option ℕ) IdentFault → BusView → BusView → Type 0
Asks app kind hcs result old new =
    Moved (TellsOcr kind result)
    (λ old new. (times : ℕ) → InProfile old.card.made → CanStart old.card.made hcs → old.card.made.kind ≡ kind
    → IsIdle hcs app times old.card → Inquired hcs times old.card.made result new.card) old new

-- The card was asked so many times first, and is asked so many times now.
abbrev pub Asking : Bool → Kind → Bool → ℕ → ℕ → BusView → BusView → Type 0
Asking app kind hcs first times old now =
    Moved Anything
    (λ old now. InProfile old.card.made → CanStart old.card.made hcs → old.card.made.kind ≡ kind
    → IsIdle hcs app first old.card → IsIdle hcs app times now.card × (times ≤ patience)) old now

-- Inquiries of a card that was asked so many times first, until it is ready.
abbrev pub Starts : Bool → Kind → Bool → ℕ → Result ℕ IdentFault → BusView → BusView → Type 0
Starts app kind hcs first result old new =
    Moved (GivesOcr kind result)
    (λ old new. InProfile old.card.made → CanStart old.card.made hcs → old.card.made.kind ≡ kind
    → IsIdle hcs app first old.card → (result ≡ Ok (ready_ocr old.card.made)) × (new.card.state ≡ Ready)) old new

-- what an inquiry leaves that has no fault, after others
next_inquired : (app : Bool) (kind : Kind) (hcs : Bool) (times : ℕ) (result : Result (Option ℕ) IdentFault)
    (a b c : BusView) → Stays a b → Asks app kind hcs result b c → NoFault b c → InProfile a.card.made
    → CanStart a.card.made hcs → a.card.made.kind ≡ kind → IsIdle hcs app times b.card
    → Inquired hcs times a.card.made result c.card
next_inquired app kind hcs times result a b c stays q same profile can is idle =
    let made = stays.carried.made in
    let back = sym made in
    subst (λ (m : Made). Inquired hcs times m result c.card) made
    (q.fine same times (subst InProfile back profile) (subst (λ (m : Made). CanStart m hcs) back can)
    (ap (λ (m : Made). m.kind) made ∙ is) idle)

-- Loops.

pub asking_none : (app : Bool) (kind : Kind) (hcs : Bool) (first : ℕ) (a : BusView) → first ≤ patience → a.is_kept ≡ true
    → IsCard a.card → Asking app kind hcs first first a a
asking_none app kind hcs first a few kept card =
    moved_none a kept card tt (λ profile can is idle. (idle, few))

-- one inquiry more, and the card isn't ready yet
pub asked_on : (kind : Kind) (hcs : Bool) (first times : ℕ) (a b c : BusView)
    → Asking false kind hcs first times a b → Asks false kind hcs (Ok None) b c
    → Asking false kind hcs first (times + 1) a c
asked_on kind hcs first times a b c p q =
    moved_then a b c p q tt
    (λ same profile can is idle.
    let parts = quiet_parts a b c p.stays q.stays same in
    let now = p.fine parts.0 profile can is idle in
    let step = next_inquired false kind hcs times (Ok None) a b c p.stays q parts.1 profile can is now.0 in
    let few = step.0 in
    (step.1, omega (arith, few)))

-- the card is ready
pub started : (app : Bool) (kind : Kind) (hcs : Bool) (first times ocr : ℕ) (a b c : BusView)
    → Asking app kind hcs first times a b → Asks app kind hcs (Ok (Some ocr)) b c
    → Starts app kind hcs first (Ok ocr) a c
started app kind hcs first times ocr a b c p q =
    moved_then a b c p q (subst (IsReadyOcr kind ocr) p.stays.carried.made (q.own ocr refl))
    (λ same profile can is idle.
    let parts = quiet_parts a b c p.stays q.stays same in
    let now = p.fine parts.0 profile can is idle in
    let step = next_inquired app kind hcs times (Ok (Some ocr)) a b c p.stays q parts.1 profile can is now.0 in
    (ap Ok step.0, step.1))

-- an inquiry fails with a fault alone
pub start_fails : (app : Bool) (kind : Kind) (hcs : Bool) (first times : ℕ) (result : Result ℕ IdentFault)
    (fault : IdentFault) (a b c : BusView) → IsErr result → Asking app kind hcs first times a b
    → Asks app kind hcs (Err fault) b c → Starts app kind hcs first result a c
start_fails app kind hcs first times result fault a b c failed p q =
    moved_then a b c p q (IfOk-from_err result (λ ocr. IsReadyOcr kind ocr a.card.made) failed)
    (λ same profile can is idle.
    let parts = quiet_parts a b c p.stays q.stays same in
    let now = p.fine parts.0 profile can is idle in
    absurd (next_inquired app kind hcs times (Err fault) a b c p.stays q parts.1 profile can is now.0))

-- so many in vain take a fault
pub start_in_vain : (app : Bool) (kind : Kind) (hcs : Bool) (first times : ℕ) (result : Result ℕ IdentFault)
    (a b : BusView) → IsErr result → patience < times → Asking app kind hcs first times a b
    → Starts app kind hcs first result a b
start_in_vain app kind hcs first times result a b failed many p =
    moved_as a b p (IfOk-from_err result (λ ocr. IsReadyOcr kind ocr a.card.made) failed)
    (λ same profile can is idle.
    let few = (p.fine same profile can is idle).1 in
    absurd (omega (arith, few, many)))

-- The first inquiry of an SD card.

pub first_fails : (hcs : Bool) (result : Result ℕ IdentFault) (fault : IdentFault) (a b : BusView) → IsErr result
    → Asks true Sd hcs (Err fault) a b → Starts true Sd hcs 0 result a b
first_fails hcs result fault a b failed q =
    start_fails true Sd hcs 0 0 result fault a a b failed
    (asking_none true Sd hcs 0 a (omega arith) q.was_kept q.was_card) q

pub first_ends : (hcs : Bool) (ocr : ℕ) (a b : BusView) → Asks true Sd hcs (Ok (Some ocr)) a b
    → Starts true Sd hcs 0 (Ok ocr) a b
first_ends hcs ocr a b q =
    started true Sd hcs 0 0 ocr a a b (asking_none true Sd hcs 0 a (omega arith) q.was_kept q.was_card) q

pub first_goes_on : (hcs : Bool) (result : Result ℕ IdentFault) (a b c : BusView) → Asks true Sd hcs (Ok None) a b
    → Starts false Sd hcs 1 result b c → Starts true Sd hcs 0 result a c
first_goes_on hcs result a b c p q =
    let made = p.stays.carried.made in
    let back = sym made in
    moved_then a b c p q (subst (λ (m : Made). IfOk result (λ ocr. IsReadyOcr Sd ocr m)) made q.own)
    (λ same profile can sd idle.
    let parts = quiet_parts a b c p.stays q.stays same in
    let ready = q.fine parts.1 (subst InProfile back profile) (subst (λ (m : Made). CanStart m hcs) back can)
    (ap (λ (m : Made). m.kind) made ∙ sd) (p.fine parts.0 0 profile can sd idle).1 in
    (ready.0 ∙ ap Ok (ap ready_ocr made), ready.1))

-- CMD55 and ACMD41.

abbrev pub Announces : Result Bool IdentFault → BusView → BusView → Type 0
Announces result old new =
    Moved (λ old new. result ≡ Ok true → old.card.made.kind ≡ Sd)
    (λ old new. (accepted : Bool) (times : ℕ) → IsIdle accepted false times old.card
    → (result ≡ Ok (is_sd old.card.made.kind)) × IsIdle accepted (is_sd old.card.made.kind) times new.card) old new

-- that of an SD card fails with a fault alone
pub not_announced : (hcs : Bool) (said : Result Bool IdentFault) (result : Result (Option ℕ) IdentFault)
    (a b : BusView) → IsErr result → (said ≡ Ok true → ⊥) → Announces said a b → Asks false Sd hcs result a b
not_announced hcs said result a b failed unsaid p =
    moved_as a b p (λ ocr ok. absurd (IfOk-at_ok (λ told. ⊥) ok (IfOk-from_err result (λ told. ⊥) failed)))
    (λ same times profile can sd idle. absurd (unsaid ((p.fine same hcs times idle).0 ∙ ap Ok (ap is_sd sd))))

pub announced_then : (hcs : Bool) (said : Result Bool IdentFault) (result : Result (Option ℕ) IdentFault)
    (a b c : BusView) → Announces said a b → Asks true Sd hcs result b c → Asks false Sd hcs result a c
announced_then hcs said result a b c p q =
    moved_then a b c p q
    (λ ocr ok. subst (IsReadyOcr Sd ocr) p.stays.carried.made (q.own ocr ok))
    (λ same times profile can sd idle.
    let parts = quiet_parts a b c p.stays q.stays same in
    let now : IsIdle hcs true times b.card =
    subst (λ app. IsIdle hcs app times b.card) (ap is_sd sd) (p.fine parts.0 hcs times idle).1 in
    next_inquired true Sd hcs times result a b c p.stays q parts.1 profile can sd now)

-- eMMC devices.

abbrev pub AsksMmc : Result (Option ℕ) IdentFault → BusView → BusView → Type 0
AsksMmc result old new =
    Moved (TellsOcr Mmc result)
    (λ old new. (times : ℕ) → InProfile old.card.made → old.card.made.kind ≡ Mmc → IsIdle false false times old.card
    → Inquired false times old.card.made result new.card) old new

abbrev pub StartsMmc : Result ℕ IdentFault → BusView → BusView → Type 0
StartsMmc result old new =
    Moved (GivesOcr Mmc result)
    (λ old new. InProfile old.card.made → old.card.made.kind ≡ Mmc → IsIdle false false 0 old.card
    → (result ≡ Ok (ready_ocr old.card.made)) × (new.card.state ≡ Ready)) old new

pub asks_mmc : (result : Result (Option ℕ) IdentFault) (a b : BusView) → AsksMmc result a b
    → Asks false Mmc false result a b
asks_mmc result a b p = moved_as a b p p.own (λ same times profile can mmc idle. p.fine same times profile mmc idle)

pub starts_mmc : (result : Result ℕ IdentFault) (a b : BusView) → Starts false Mmc false 0 result a b
    → StartsMmc result a b
starts_mmc result a b p =
    moved_as a b p p.own (λ same profile mmc idle. p.fine same profile (λ sd sectors. cc (sd, mmc)) mmc idle)
