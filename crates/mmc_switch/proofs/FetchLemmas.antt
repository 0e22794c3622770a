-- A command that makes the card send bytes, and the block after it.
use Rattle.std.proofs.Common.{◌∙◌, ◌≡◌, Bool, List, ap, false, length, refl, subst, sym, true, ℕ}
use Rattle.std.proofs.lemmas.Bool.{eq-eqb}
use Rattle.std.proofs.lemmas.List.{length-set}
use Rattle.std.proofs.lemmas.Result.{IfOk-from_err}
use Rattle.std.specs.Prelude.{Err, IfOk, IsErr, IsOk, None, Ok, Result, Some}
use Rattle.mmc_frame.specs.Status.{error_bits, own_status}
use Rattle.mmc_frame.specs.declared.card_state.State.TheVariants.{Tran}
use Rattle.mmc_frame.specs.declared.kind.Kind.{Kind}
use Rattle.mmc_frame.specs.declared.kind.Kind.TheVariants.{Mmc}
use Rattle.mmc_card.specs.declared.exchange.Lines.{Lines}
use Rattle.mmc_card.specs.declared.exchange.Timing.{Timing}
use Rattle.mmc_card.specs.Blocks.{can_send, lines_fit, next_block, sent}
use Rattle.mmc_card.specs.BusView.{BusView}
use Rattle.mmc_card.specs.Card.{Card, FromSectors, IsCard}
use Rattle.mmc_card.specs.CardAnswer.{Choice}
use Rattle.mmc_card.specs.Faults.{NoFault}
use Rattle.mmc_card.specs.Laws.{IsStill, Setting, erased_by, setting_of}
use Rattle.mmc_card.specs.RowsErase.{forgotten}
use Rattle.mmc_card.specs.RowsSwitch.{IsExtCsdOf, ext_csd_now, timing_number, width_number}
use Rattle.mmc_card.specs.RowsTransfer.{sending}
use Rattle.mmc_bus.specs.CommandLaws.{Does, ShowsDropped, ShowsNoError}
use Rattle.mmc_bus.specs.Heard.{response_heard, response_of}
use Rattle.mmc_bus.specs.Learned.{Asked}
use Rattle.mmc_bus.specs.declared.cause.Cause.{Cause}
use Rattle.mmc_bus.specs.declared.host.Unheard.{Unheard}
use Rattle.mmc_bus.specs.Work.{Moved, Narrows, Worked}
use Rattle.mmc_bus.proofs.WorkLemmas.{moved_as, moved_by, moved_then, quiet_parts, refuted}
use Rattle.mmc_switch.specs.Stages.{IsAtRest, IsSet, IsSetOver, lines_of}
use Rattle.mmc_switch.proofs.RestLemmas.{ErrorsLaw, answers_well, carried_out, set_as, still_at_rest}

-- the host's lines stay, and the card is to send these bytes
abbrev pub IsSending : List ℕ → Timing → BusView → BusView → Type 0
IsSending bytes timing old new =
    (new.lines ≡ old.lines) × (new.card ≡ sending bytes timing (forgotten old.card))

-- The command, where its law asks for `Asks` and the card carries it out where `IsThere` holds.
abbrev pub Commands : (Asks IsThere : Type 0) → List ℕ → Timing → Result Unit Cause → BusView → BusView → Type 0
Commands Asks IsThere bytes timing r a b =
    Moved (λ old new. IsStill a.card → Asks → IsOk r → IsSending bytes timing a b)
    (λ old new. (is_app : Bool) → Asks → IsThere → IsAtRest is_app a.card → IsOk r) a b

pub commanded : {Asks IsThere : Type 0} (kind : Kind) (bytes : List ℕ) (timing : Timing) (a : BusView)
    (index argument : ℕ) (heard : Result ℕ Unheard) (b : BusView) (r : Result Unit Cause)
    → Asked (response_heard index) (response_of index) a index argument heard b → b.is_kept ≡ true
    → erased_by a.card (Some (index, argument)) ≡ None → ErrorsLaw → (Asks → IsThere → a.card.made.kind ≡ kind)
    → (IsOk r → (told : ℕ) × (heard ≡ Ok told) × (error_bits kind (own_status told) ≡ 0))
    → ((told : ℕ) → heard ≡ Ok told → error_bits kind told ≡ 0 → IsOk r)
    → (IsStill a.card → Asks → Does ShowsNoError IsThere ShowsDropped (sending bytes timing (forgotten a.card)) a heard b)
    → Commands Asks IsThere bytes timing r a b
commanded kind bytes timing a index argument heard b r asked kept none errors of judged judges law =
    let k = asked.exchanged.kept kept in
    let after = sending bytes timing (forgotten a.card) in
    moved_by a index argument heard b none k
    (λ is asks ok. (
      asked.exchanged.lines,
      (carried_out kind ShowsDropped after a heard b r judged (law is asks) ok).1,
    ))
    (λ same is_app asks there rest.
    answers_well kind is_app after a heard b r errors k.was_card (of asks there) judges (law (still_at_rest a.card rest) asks) same rest there)

-- The block.

abbrev pub Received : ℕ → List ℕ → Result Unit Cause → BusView → BusView → Type 0
Received size block r =
    Worked Narrows
    (λ old new. IsOk r → (can_send old.lines size old.card ≡ true) × (next_block old.card ≡ Some block)
    × ((choice : Choice) × (new.card ≡ sent choice old.card)))
    (λ old new. can_send old.lines size old.card ≡ true → old.card.is_busy ≡ false → IsOk r)

same_some : {X : Type 0} (x y : X) → Some x ≡ Some y → x ≡ y
same_some x y h = cc

-- lines as the card is set fit it
fits : (is_app : Bool) (setting : Setting) (a : BusView) (lines : Lines) → IsSet is_app setting a → lines ≡ a.lines
    → lines_fit lines a.card ≡ true
fits is_app setting a lines set same =
    let host : lines ≡ lines_of (setting_of a.card) = same ∙ set.on_lines ∙ ap lines_of (sym set.is_set) in
    subst (λ l. lines_fit l a.card ≡ true) (sym host)
    (rw (
      eq-eqb (width_number a.card.width) (width_number a.card.width) refl,
      eq-eqb (timing_number a.card.timing) (timing_number a.card.timing) refl,
    ) refl)

sends_all : (size : ℕ) (is_app : Bool) (bytes : List ℕ) (timing : Timing) (setting : Setting) (a b : BusView)
    → IsSet is_app setting a → IsSending bytes timing a b → length bytes ≡ size
    → can_send b.lines size b.card ≡ true
sends_all size is_app bytes timing setting a b set sends long =
    let fit = fits is_app setting a b.lines set sends.0 in
    let whole = eq-eqb (length bytes) size long in
    let at : can_send b.lines size (sending bytes timing (forgotten a.card)) ≡ true = rw (fit, whole) refl in
    ap (can_send b.lines size) sends.1 ∙ at

-- what came are the bytes, and the card is at rest with the timing that follows them
block_came : (is_app : Bool) (bytes block : List ℕ) (timing : Timing) (was is : Setting) (a b c : BusView)
    → IsSet is_app was a → record (setting_of a.card) { timing = timing } ≡ is → IsSending bytes timing a b
    → c.lines ≡ b.lines → next_block b.card ≡ Some block → (choice : Choice) → c.card ≡ sent choice b.card
    → (block ≡ bytes) × IsSetOver (lines_of was) false is c
block_came is_app bytes block timing was is a b c set setting sends lines came choice e =
    let told : Some block ≡ Some bytes = sym came ∙ ap next_block sends.1 in
    let after : c.card ≡ sent choice (sending bytes timing (forgotten a.card)) =
    e ∙ ap (λ (x : Card). sent choice x) sends.1 in (
      same_some block bytes told,
      set_as false is_app Tran FromSectors a.card.width timing a.card.block_length (lines_of was) was is a c refl
          (lines ∙ sends.0) after setting set,
    )

-- The command and the block: what the bytes tell, and a card at rest with the timing that follows them.
abbrev pub Fetches : {X : Type 0} → (Asks Can : Type 0) → Bool → List ℕ → Timing → (List ℕ → X) → Result X Cause
    → BusView → BusView → Type 0
Fetches Asks Can is_app bytes timing tells r a c =
    Moved
    (λ old new. (was is : Setting) → Asks → IsSet is_app was a → record (setting_of a.card) { timing = timing } ≡ is
    → IfOk r (λ x. (x ≡ tells bytes) × IsSetOver (lines_of was) false is c))
    (λ old new. (was : Setting) → Asks → Can → IsSet is_app was a → IsOk r) a c

pub command_fails : {X Asks IsThere Can : Type 0} (is_app : Bool) (bytes : List ℕ) (timing : Timing)
    (tells : List ℕ → X) (cause : Cause) (r : Result X Cause) (a b : BusView)
    → (Asks → Can → IsAtRest is_app a.card → IsThere) → IsErr r
    → Commands Asks IsThere bytes timing (Err cause) a b → Fetches Asks Can is_app bytes timing tells r a b
command_fails is_app bytes timing tells cause r a b there err p =
    moved_as a b p (λ was is asks set setting. IfOk-from_err r _ err)
    (λ same was asks can set.
    refuted {X = Unit {0}} (Err cause) refl (p.fine same is_app asks (there asks can set.rest) set.rest))

-- without a fault the command is heard, and the card can send the bytes
sends_fine : {Asks IsThere : Type 0} (size : ℕ) (is_app : Bool) (bytes block : List ℕ) (timing : Timing)
    (setting : Setting) (r : Result Unit Cause) (a b c : BusView) → Commands Asks IsThere bytes timing (Ok tt) a b
    → Received size block r b c → Asks → IsSet is_app setting a → length bytes ≡ size → NoFault a c → IsOk r
sends_fine size is_app bytes block timing setting r a b c p q asks set long same =
    let sends = p.own (still_at_rest a.card set.rest) asks refl in
    q.fine (quiet_parts a b c p.stays q.stays same).1
    (sends_all size is_app bytes timing setting a b set sends long)
    (ap (λ (card : Card). card.is_busy) sends.1 ∙ set.rest.rests)

pub block_fails : {X Asks IsThere Can : Type 0} (size : ℕ) (is_app : Bool) (bytes block : List ℕ) (timing : Timing)
    (tells : List ℕ → X) (cause : Cause) (r : Result X Cause) (a b c : BusView)
    → (Asks → Can → IsCard a.card → length bytes ≡ size) → IsErr r → Commands Asks IsThere bytes timing (Ok tt) a b
    → Received size block (Err cause) b c → Fetches Asks Can is_app bytes timing tells r a c
block_fails size is_app bytes block timing tells cause r a b c long err p q =
    moved_then a b c p q (λ was is asks set setting. IfOk-from_err r _ err)
    (λ same was asks can set.
    refuted {X = Unit {0}} (Err cause) refl
    (sends_fine size is_app bytes block timing was (Err cause) a b c p q asks set (long asks can p.was_card) same))

pub fetched : {X Asks IsThere Can : Type 0} (size : ℕ) (is_app : Bool) (bytes block : List ℕ) (timing : Timing)
    (tells : List ℕ → X) (x : X) (a b c : BusView) → x ≡ tells block → Commands Asks IsThere bytes timing (Ok tt) a b
    → Received size block (Ok tt) b c → Fetches Asks Can is_app bytes timing tells (Ok x) a c
fetched size is_app bytes block timing tells x a b c told p q =
    let got = q.own refl in
    moved_then a b c p q
    (λ was is asks set setting.
    let came = block_came is_app bytes block timing was is a b c set setting (p.own (still_at_rest a.card set.rest) asks refl) q.set.lines got.1
    got.2.0 got.2.1 in
    (told ∙ ap tells came.0, came.1))
    (λ same was asks can set. refl)

-- The EXT_CSD of an eMMC device.

abbrev pub SendsExtCsd : Result (List ℕ) Cause → BusView → BusView → Type 0
SendsExtCsd r a b =
    Moved
    (λ old new. (setting : Setting) → old.card.made.kind ≡ Mmc → IsSet false setting old
    → IfOk r (λ block. IsExtCsdOf old.card block × IsSet false setting new))
    (λ old new. (setting : Setting) → old.card.made.kind ≡ Mmc → IsSet false setting old → IsOk r) a b

pub ext_csd_length : (card : Card) → length card.made.ext_csd ≡ 512 → length (ext_csd_now card) ≡ 512
ext_csd_length card long = simp length-set long

-- what was sent, where something was
sent_is : (card : Card) (bytes : List ℕ) (r : Result (List ℕ) Cause) (P : Type 0)
    → (IsOk r → IsExtCsdOf card bytes) → IfOk r (λ x. (x ≡ bytes) × P) → IfOk r (λ x. IsExtCsdOf card x × P)
sent_is card bytes (Ok x) P is p = (subst (IsExtCsdOf card) (sym p.0) (is refl), p.1)
sent_is card bytes (Err cause) P is p = tt

pub ext_csd_sent : (bytes : List ℕ) (r : Result (List ℕ) Cause) (a b : BusView)
    → (a.card.made.kind ≡ Mmc → IsStill a.card → IsOk r → IsExtCsdOf a.card bytes)
    → Fetches ((a.card.made.kind ≡ Mmc) × IsStill a.card) (Unit {0}) false bytes a.card.timing (λ bytes. bytes) r a b
    → SendsExtCsd r a b
ext_csd_sent bytes r a b is p =
    moved_as a b p
    (λ setting mmc set.
    let calm = still_at_rest a.card set.rest in
    sent_is a.card bytes r (IsSet false setting b) (is mmc calm) (p.own setting setting (mmc, calm) set set.is_set))
    (λ same setting mmc set. p.fine same setting (mmc, still_at_rest a.card set.rest) tt set)
