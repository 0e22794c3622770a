-- What a reader makes of an answer that comes whole.
use Rattle.std.proofs.Common.{◌&&◌, ◌<◌, ◌∙◌, ◌≡◌, Bool, List, ap, cond, false, length, refl, subst, sym, true, ℕ}
use Rattle.std.specs.Prelude.{◌==◌, ◌||◌, Err, None, Ok, Option, Result, Some, if◌then◌else◌, is_ok, not}
use Rattle.std.proofs.lemmas.Bool.{agree_below_at, eqb-true}
use Rattle.mmc_frame.specs.Field.{field}
use Rattle.mmc_frame.specs.Flips.{RefusesFlips, RefusesFlipsBesideOcr, is_r2, is_response_to}
use Rattle.mmc_frame.specs.Frame.{argument_in, has_fixed_bits, index_in, is_sound, response_in}
use Rattle.mmc_frame.specs.RegisterFrame.{RegistersComeBack, has_end_bit, is_sound_register, ocr_in, register_frame}
use Rattle.mmc_frame.specs.RegisterFrame.{register_in}
use Rattle.mmc_frame.specs.declared.fault.FrameFault.{FrameFault}
use Rattle.mmc_frame.specs.declared.fault.FrameFault.TheVariants.{Check, FixedBits, Index}
use Rattle.mmc_frame.specs.declared.kind.Kind.{Kind}
use Rattle.mmc_frame.specs.declared.kind.Kind.TheVariants.{Mmc, Sd}
use Rattle.mmc_card.specs.declared.exchange.Reply.{Reply}
use Rattle.mmc_card.specs.declared.exchange.Reply.TheVariants as Came
use Rattle.mmc_bus.specs.declared.host.Unheard.{Unheard}
use Rattle.mmc_bus.specs.declared.host.Unheard.TheVariants.{Unsound}
use Rattle.mmc_card.proofs.Conditions.{by_cond, neither}
use Rattle.mmc_card.proofs.ToldLemmas.{told_registers}
use Rattle.mmc_card.specs.CardAnswer.{CardAnswer, Checked, Choice, Silent, R3, R2, raised, refused, shown, status}
use Rattle.mmc_card.specs.ErrorBits.{block_len_error, erase_param}
use Rattle.mmc_card.specs.Card.{Both, Card, First, Held, NoAddress, is_in}
use Rattle.mmc_card.specs.Faults.{IsRefused, Spells}
use Rattle.mmc_bus.specs.Heard.{index_of_inquiry, is_inquiry_index, nothing_heard, nothing_of, ocr_heard, ocr_of}
use Rattle.mmc_bus.specs.Heard.{or_unsound, register_heard, register_of, response_heard, response_of}
use Rattle.mmc_card.specs.Made.{HasRegisters}
use Rattle.mmc_card.specs.declared.command.Command.{Command}
use Rattle.mmc_card.specs.declared.command.Command.TheVariants.{StopTransmission}
use Rattle.mmc_card.specs.declared.command.Command.TheVariants.{SdSendOpCond, AllSendCid, Erase, EraseEnd, EraseStart}
use Rattle.mmc_card.specs.declared.command.Command.TheVariants.{GoIdleState, ReadMultipleBlock, ReadSingleBlock}
use Rattle.mmc_card.specs.declared.command.Command.TheVariants.{SendCsd, SendIfCond, SendOpCond, SendStatus, SetBlocklen}
use Rattle.mmc_card.specs.declared.command.Command.TheVariants.{Switch, Unknown, WriteBlock, WriteMultipleBlock}
use Rattle.mmc_card.specs.Judged.{IsSaid}
use Rattle.mmc_card.specs.Rows.{command_of, found, hindered, is_foreign, is_legal, leaves_erase, obeyed, reached, responded, row}
use Rattle.mmc_card.specs.RowsErase.{erase_held, erases, erasing, forgotten, hold_first, hold_last, holds_address, is_no_range}
use Rattle.mmc_card.specs.RowsErase.{is_trim}
use Rattle.mmc_card.specs.RowsIdentify.{at_work, inquired, is_served, lagging, may_lag}
use Rattle.mmc_card.specs.RowsSwitch.{switch_row, switched}
use Rattle.mmc_card.specs.RowsTransfer.{stopped, transfer_errors, transferred}
use Rattle.mmc_frame.specs.declared.card_state.State.TheVariants.{Tran}

-- The kinds of answer.

abbrev pub asks_for_ocr : Command → Bool
asks_for_ocr SendOpCond = true
asks_for_ocr SdSendOpCond = true
asks_for_ocr _ = false

-- sixteen bytes whose check fits and whose last bit is 1
pub record IsRegister (bytes : List ℕ) : Type 0 where
  pub size : length bytes ≡ 16
  pub check : is_sound_register bytes ≡ true
  pub end_bit : has_end_bit bytes ≡ true

-- an OCR answers an inquiry alone, and what is sent as a register is one
abbrev pub IsAnswerTo : Command → CardAnswer → Type 0
IsAnswerTo command Silent = Unit {0}
IsAnswerTo command (Checked index argument) = asks_for_ocr command ≡ false
IsAnswerTo command (R3 ocr) = asks_for_ocr command ≡ true
IsAnswerTo command (R2 bytes) = IsRegister bytes

answer_cond : (command : Command) (b : Bool) (x y : Card × CardAnswer) → IsAnswerTo command x.1 → IsAnswerTo command y.1
    → IsAnswerTo command (cond b x y).1
answer_cond command b x y p q = by_cond (λ (r : Card × CardAnswer). IsAnswerTo command r.1) b {x = x} {y = y} (λ _. p)
    (λ _. q)

inquired_answer : (command : Command) (is_ready : Bool) (c : Card) → asks_for_ocr command ≡ true
    → IsAnswerTo command (inquired is_ready c).1
inquired_answer command true c asks = asks
inquired_answer command false c asks = asks

transferred_answer : (command : Command) (index errors : ℕ) (c after : Card) → asks_for_ocr command ≡ false
    → IsAnswerTo command (transferred index errors c after).1
transferred_answer command index errors c after asks =
    answer_cond command (errors == 0) (after, Checked index (status false c))
    (shown c, Checked index (status false (raised errors c))) asks asks

first_answer : (index : ℕ) (c : Card) (address : ℕ) (held : Held)
    → IsAnswerTo EraseStart (hold_first index c address held).1
first_answer index c address NoAddress = refl
first_answer index c address (First first) = refl
first_answer index c address (Both first last) = refl

last_answer : (index : ℕ) (c : Card) (address : ℕ) (held : Held)
    → IsAnswerTo EraseEnd (hold_last index c address held).1
last_answer index c address NoAddress = refl
last_answer index c address (First first) = refl
last_answer index c address (Both first last) = refl

erase_answer : (c : Card) (argument : ℕ) (held : Held) → IsAnswerTo Erase (erase_held c argument held).1
erase_answer c argument NoAddress = refl
erase_answer c argument (First first) = refl
erase_answer c argument (Both first last) =
    answer_cond Erase (is_no_range c first last)
    (forgotten (shown c), Checked 38 (status false (raised erase_param c)))
    (erases (erasing c (is_trim c argument) first last) c, Checked 38 (status false c)) refl refl

switch_answer : (late : Bool) (c : Card) (after : Option Card) → IsAnswerTo Switch (switch_row late c after).1
switch_answer late c (Some after) = refl
switch_answer late c None = refl

row_answer : (choice : Choice) (command : Command) (c : Card) (index argument : ℕ) → HasRegisters c.made
    → IsAnswerTo command (row choice command c index argument).1
row_answer choice GoIdleState c index argument r = tt
row_answer choice SendOpCond c index argument r = inquired_answer SendOpCond (not choice.is_slow) c refl
row_answer choice SdSendOpCond c index argument r = inquired_answer SdSendOpCond
    (is_served c argument && not choice.is_slow) c refl
row_answer choice AllSendCid c index argument r = record { size = r.cid; check = r.cid_check; end_bit = r.cid_end }
row_answer choice SendCsd c index argument r =
    let told = told_registers choice.is_protected c.made r in
    record { size = told.csd; check = told.csd_check; end_bit = told.csd_end }
row_answer choice SendIfCond c index argument r = by_cond (IsAnswerTo SendIfCond)
    (field 11 8 argument == 1) {x = Checked 8 (field 11 0 argument)} {y = Silent} (λ _. refl) (λ _. tt)
row_answer choice SendStatus c index argument r =
    answer_cond SendStatus (may_lag c && choice.is_behind) (lagging choice c, Checked 13 (status false (at_work choice c)))
    (shown c, Checked 13 (status false c)) refl refl
row_answer choice SetBlocklen c index argument r =
    answer_cond SetBlocklen (argument == 512) (record (shown c) { block_length = 512 }, Checked 16 (status false c))
    (shown c, Checked 16 (status false (raised block_len_error c))) refl refl
row_answer choice ReadSingleBlock c index argument r = transferred_answer ReadSingleBlock 17
    (transfer_errors false c argument) c _ refl
row_answer choice ReadMultipleBlock c index argument r = transferred_answer ReadMultipleBlock 18
    (transfer_errors false c argument) c _ refl
row_answer choice WriteBlock c index argument r = transferred_answer WriteBlock 24
    (transfer_errors true c argument) c _ refl
row_answer choice WriteMultipleBlock c index argument r = transferred_answer WriteMultipleBlock 25
    (transfer_errors true c argument) c _ refl
row_answer choice StopTransmission c index argument r =
    answer_cond StopTransmission (is_in c.state Tran && not choice.answers_stop) (refused c, Silent)
    (stopped choice.stays_busy c, Checked 12 (status false c)) tt refl
row_answer choice EraseStart c index argument r = first_answer index c argument c.erase
row_answer choice EraseEnd c index argument r = last_answer index c argument c.erase
row_answer choice Erase c index argument r = erase_answer c argument c.erase
row_answer choice Switch c index argument r =
    switch_answer choice.says_late c (if choice.fails_switch then None else switched c argument)
row_answer choice Unknown c index argument r = tt
row_answer choice _ c index argument r = refl

-- the card with these of bits 23 and 22 to be shown, and these errors of its own
abbrev pub with_errors : ℕ → ℕ → Card → Card
with_errors left errors card = record card { command_errors = left; errors = errors }

registers_reached : (choice : Choice) (command : Command) (c : Card) → HasRegisters c.made
    → HasRegisters (reached choice command c).made
registers_reached choice command c r =
    let Has : Card → Type 0 = λ card. HasRegisters card.made in
    by_cond Has (leaves_erase command) (λ _. r) (λ _. by_cond Has (holds_address c.erase) (λ _. by_cond Has choice.drops_quietly (λ _. r) (λ _. r)) (λ _. r))

-- an inquiry finds no error
asks_or_finds : (choice : Choice) (command : Command) → asks_for_ocr command ≡ true → (found choice command == 0) ≡ true
asks_or_finds choice SendOpCond asks = refl
asks_or_finds choice SdSendOpCond asks = refl
asks_or_finds choice _ asks = cc

r1_unless_inquiry : (asks none : Bool) (command : Command) (index bits : ℕ) (c : Card) (x : Card × CardAnswer)
    → asks ≡ asks_for_ocr command → (asks ≡ true → none ≡ true) → IsAnswerTo command x.1
    → IsAnswerTo command (cond {A = Card × CardAnswer} none x (hindered bits c index)).1
r1_unless_inquiry true none command index bits c x asks inquires fits = rw (inquires refl) fits
r1_unless_inquiry false true command index bits c x asks inquires fits = fits
r1_unless_inquiry false false command index bits c x asks inquires fits = sym asks

obeyed_answer : (choice : Choice) (command : Command) (c : Card) (index argument : ℕ) → HasRegisters c.made
    → IsAnswerTo command (obeyed choice command c index argument).1
obeyed_answer choice command c index argument r =
    r1_unless_inquiry (asks_for_ocr command) (found choice command == 0) command index (found choice command) c
    (row choice command c index argument) refl (asks_or_finds choice command) (row_answer choice command c index argument r)

pub responded_answer : (choice : Choice) (command : Command) (c : Card) (index argument : ℕ) → HasRegisters c.made
    → IsAnswerTo command (responded choice command c index argument).1
responded_answer choice command c index argument r =
    answer_cond command (is_foreign command c argument) (c, Silent)
    (cond (is_legal command c) (obeyed choice command (reached choice command c) index argument)
    (refused (reached choice command c), Silent)) tt
    (answer_cond command (is_legal command c) (obeyed choice command (reached choice command c) index argument)
    (refused (reached choice command c), Silent)
    (obeyed_answer choice command (reached choice command c) index argument (registers_reached choice command c r)) tt)

-- no other index than those of the inquiries means one
named_so : (kind : Kind) (app : Bool) (index : ℕ) → index < 64
    → (is_inquiry_index index || not (asks_for_ocr (command_of kind app index))) ≡ true
named_so Sd true index h = agree_below_at (λ i. is_inquiry_index i || not (asks_for_ocr (command_of Sd true i)))
    (λ i. true) 64 index refl h
named_so Sd false index h = agree_below_at (λ i. is_inquiry_index i || not (asks_for_ocr (command_of Sd false i)))
    (λ i. true) 64 index refl h
named_so Mmc true index h = agree_below_at (λ i. is_inquiry_index i || not (asks_for_ocr (command_of Mmc true i)))
    (λ i. true) 64 index refl h
named_so Mmc false index h = agree_below_at (λ i. is_inquiry_index i || not (asks_for_ocr (command_of Mmc false i)))
    (λ i. true) 64 index refl h

pub asks_none : (kind : Kind) (app : Bool) (index : ℕ) → index < 64 → is_inquiry_index index ≡ false
    → asks_for_ocr (command_of kind app index) ≡ false
asks_none kind app index h n = neither (is_inquiry_index index) (asks_for_ocr (command_of kind app index))
    (named_so kind app index h) n

-- an inquiry is answered by an OCR or not at all
abbrev pub IsOcrOrNone : CardAnswer → Type 0
IsOcrOrNone Silent = Unit {0}
IsOcrOrNone (Checked index argument) = ⊥
IsOcrOrNone (R3 ocr) = Unit {0}
IsOcrOrNone (R2 bytes) = ⊥

ocr_where_legal : (b : Bool) (c : Card) (x : Card × CardAnswer) → IsOcrOrNone x.1
    → IsOcrOrNone (cond {A = Card × CardAnswer} b x (c, Silent)).1
ocr_where_legal true c x h = h
ocr_where_legal false c x h = tt

ocr_inquired : (is_ready : Bool) (c : Card) → IsOcrOrNone (inquired is_ready c).1
ocr_inquired true c = tt
ocr_inquired false c = tt

pub inquiry_answer : (kind own : Kind) (app : Bool) (choice : Choice) (c : Card) (argument : ℕ)
    → IsOcrOrNone (responded choice (command_of own app (index_of_inquiry kind)) c (index_of_inquiry kind) argument).1
inquiry_answer Sd Sd true choice c argument =
    ocr_where_legal (is_legal SdSendOpCond c) _ (row choice SdSendOpCond (reached choice SdSendOpCond c) 41 argument)
    (ocr_inquired (is_served (reached choice SdSendOpCond c) argument && not choice.is_slow)
    (reached choice SdSendOpCond c))
inquiry_answer Sd Sd false choice c argument = tt
inquiry_answer Sd Mmc app choice c argument = tt
inquiry_answer Mmc Sd app choice c argument = tt
inquiry_answer Mmc Mmc app choice c argument =
    ocr_where_legal (is_legal SendOpCond c) _ (row choice SendOpCond (reached choice SendOpCond c) 1 argument)
    (ocr_inquired (not choice.is_slow) (reached choice SendOpCond c))

-- Readers.

pub record Reads {X : Type 0} (sent : ℕ × ℕ) (Fits : CardAnswer → Type 0) (hears : Reply → Result X Unheard)
    (answers : CardAnswer → Result X Unheard) : Type 0 where
  pub whole : (answer : CardAnswer) (reply : Reply) → Fits answer → Spells answer reply → hears reply ≡ answers answer
  pub silent : (x : X) → hears Came.Silent ≡ Ok x → ⊥
  pub mute : (x : X) → answers Silent ≡ Ok x → ⊥
  pub refused : (answer : CardAnswer) (reply : Reply) → Fits answer → IsRefused (Some sent) answer reply → (x : X)
      → hears reply ≡ Ok x → ⊥
  -- what isn't judged of an answer changes nothing of what fits
  pub said : (kind : Kind) (answer said : CardAnswer) → IsSaid kind answer said → Fits answer → Fits said

answer_said : (command : Command) (kind : Kind) (answer said : CardAnswer) → IsSaid kind answer said
    → IsAnswerTo command answer → IsAnswerTo command said
answer_said command kind Silent said is fits = subst (IsAnswerTo command) (sym is) fits
answer_said command kind (Checked index argument) said is fits = subst (IsAnswerTo command) (sym is.1) fits
answer_said command kind (R3 ocr) said is fits = subst (IsAnswerTo command) (sym is.1) fits
answer_said command kind (R2 bytes) said is fits = subst (IsAnswerTo command) (sym is) fits

ocr_said : (kind : Kind) (answer said : CardAnswer) → IsSaid kind answer said → IsOcrOrNone answer → IsOcrOrNone said
ocr_said kind Silent said is fits = subst IsOcrOrNone (sym is) fits
ocr_said kind (Checked index argument) said is fits = absurd fits
ocr_said kind (R3 ocr) said is fits = subst IsOcrOrNone (sym is.1) fits
ocr_said kind (R2 bytes) said is fits = absurd fits

received_ok : {X : Type 0} (r : Result X FrameFault) (x : X) → or_unsound r ≡ Ok x → is_ok r ≡ false → ⊥
received_ok (Ok y) x h n = cc
received_ok (Err e) x h n = cc

fits_ok : {X : Type 0} (r : Result X FrameFault) (x : X) → r ≡ Ok x → is_ok r ≡ true
fits_ok r x h = ap is_ok h

read_by : (b : Bool) (x y : ℕ) → x ≡ y → or_unsound (cond b (Ok x) (Err Index)) ≡ cond b (Ok y) (Err Unsound)
read_by true x y h = ap Ok h
read_by false x y h = refl

other_by : (same : Bool) (i j k x y : ℕ) → (i == j) ≡ same → cond same (Ok x) (Err Index) ≡ Ok y
    → or_unsound (cond (i == k) (Ok x) (Err Index)) ≡ cond (j == k) (Ok y) (Err Unsound)
other_by true i j k x y e h =
    let at : i ≡ j = eqb-true i j e in
    let same : x ≡ y = cc in
    rw at (read_by (j == k) x y same)
other_by false i j k x y e h = absurd cc

-- a sound response to one index, read as one to another
other_index : (a b : Bool) (i j k x y : ℕ) → cond a (cond b (cond (i == j) (Ok x) (Err Index)) (Err Check))
    (Err FixedBits) ≡ Ok y
    → or_unsound (cond a (cond b (cond (i == k) (Ok x) (Err Index)) (Err Check)) (Err FixedBits)) ≡ cond (j == k) (Ok y)
    (Err Unsound)
other_index true true i j k x y h = other_by (i == j) i j k x y refl h
other_index true false i j k x y h = absurd cc
other_index false b i j k x y h = absurd cc

response_whole : (index : ℕ) (command : Command) → asks_for_ocr command ≡ false → (answer : CardAnswer) (reply : Reply)
    → IsAnswerTo command answer
    → Spells answer reply → response_heard index reply ≡ response_of index answer
response_whole index command asks Silent reply fits spells = ap (response_heard index) spells
response_whole index command asks (Checked other argument) reply fits spells =
    ap (response_heard index) spells.1
    ∙ other_index (has_fixed_bits 0 spells.0) (is_sound spells.0) (index_in spells.0) other index
    (argument_in spells.0) argument spells.2
response_whole index command asks (R3 ocr) reply fits spells = cc
response_whole index command asks (R2 bytes) reply fits spells = ap (response_heard index) spells

response_refused : (index argument : ℕ) (command : Command) → asks_for_ocr command ≡ false → (answer : CardAnswer) (reply : Reply)
    → IsAnswerTo command answer → IsRefused (Some (index, argument)) answer reply → (x : ℕ) → response_heard index reply ≡ Ok x → ⊥
response_refused index argument command asks answer Came.Silent fits refused x h = cc
response_refused index argument command asks answer (Came.Long frame) fits refused x h = cc
response_refused index argument command asks Silent (Came.Short frame) fits refused x h = refused
response_refused index argument command asks (Checked other told) (Came.Short frame) fits refused x h =
    received_ok (response_in frame index) x h refused
response_refused index argument command asks (R3 ocr) (Came.Short frame) fits refused x h = cc
response_refused index argument command asks (R2 bytes) (Came.Short frame) fits refused x h =
    received_ok (response_in frame index) x h refused

pub response_reads : (index argument : ℕ) (command : Command) → asks_for_ocr command ≡ false
    → Reads (index, argument) (IsAnswerTo command) (response_heard index) (response_of index)
response_reads index argument command asks = record {
  whole = response_whole index command asks;
  silent = λ x h. cc;
  mute = λ x h. cc;
  refused = response_refused index argument command asks;
  said = answer_said command;
}

ocr_whole : (answer : CardAnswer) (reply : Reply) → IsOcrOrNone answer → Spells answer reply
    → ocr_heard reply ≡ ocr_of answer
ocr_whole Silent reply fits spells = ap ocr_heard spells
ocr_whole (Checked index argument) reply fits spells = absurd fits
ocr_whole (R3 ocr) reply fits spells = ap ocr_heard spells
ocr_whole (R2 bytes) reply fits spells = absurd fits

ocr_refused : (sent : ℕ × ℕ) (answer : CardAnswer) (reply : Reply) → IsOcrOrNone answer → IsRefused (Some sent) answer reply
    → (x : ℕ) → ocr_heard reply ≡ Ok x → ⊥
ocr_refused sent answer Came.Silent fits refused x h = cc
ocr_refused sent answer (Came.Long frame) fits refused x h = cc
ocr_refused sent Silent (Came.Short frame) fits refused x h = refused
ocr_refused sent (Checked index argument) (Came.Short frame) fits refused x h = fits
ocr_refused sent (R3 ocr) (Came.Short frame) fits refused x h = received_ok (ocr_in frame) x h refused
ocr_refused sent (R2 bytes) (Came.Short frame) fits refused x h = fits

pub ocr_reads : (sent : ℕ × ℕ) → Reads sent IsOcrOrNone ocr_heard ocr_of
ocr_reads sent = record {
  whole = ocr_whole;
  silent = λ x h. cc;
  mute = λ x h. cc;
  refused = ocr_refused sent;
  said = ocr_said;
}

register_whole : (command : Command) (answer : CardAnswer) (reply : Reply) → IsAnswerTo command answer
    → Spells answer reply → register_heard reply ≡ register_of answer
register_whole command Silent reply fits spells = ap register_heard spells
register_whole command (Checked index argument) reply fits spells = ap register_heard spells.1
register_whole command (R3 ocr) reply fits spells = ap register_heard spells
register_whole command (R2 bytes) reply fits spells = ap register_heard spells

register_refused : (sent : ℕ × ℕ) (command : Command) (answer : CardAnswer) (reply : Reply) → IsAnswerTo command answer
    → IsRefused (Some sent) answer reply → (x : List ℕ) → register_heard reply ≡ Ok x → ⊥
register_refused sent command answer Came.Silent fits refused x h = cc
register_refused sent command answer (Came.Short frame) fits refused x h = cc
register_refused sent command Silent (Came.Long frame) fits refused x h = refused
register_refused sent command (Checked index argument) (Came.Long frame) fits refused x h =
    received_ok (register_in frame) x h refused
register_refused sent command (R3 ocr) (Came.Long frame) fits refused x h = received_ok (register_in frame) x h refused
register_refused sent command (R2 bytes) (Came.Long frame) fits refused x h = received_ok (register_in frame) x h refused

pub register_reads : (sent : ℕ × ℕ) (command : Command) → Reads sent (IsAnswerTo command) register_heard register_of
register_reads sent command = record {
  whole = register_whole command;
  silent = λ x h. cc;
  mute = λ x h. cc;
  refused = register_refused sent command;
  said = answer_said command;
}

pub nothing_reads : (sent : ℕ × ℕ) (command : Command) → Reads sent (IsAnswerTo command) nothing_heard nothing_of
nothing_reads sent command = record {
  whole = λ answer reply fits spells. refl;
  silent = λ x h. cc;
  mute = λ x h. cc;
  refused = λ answer reply fits f x h. cc;
  said = answer_said command;
}
