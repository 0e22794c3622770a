-- Each step of a card leaves a card: all parts of what holds of it.
use Rattle.std.proofs.Common.{◌∙◌, ◌≡◌, ◌⊎◌, Bool, List, ap, arith, false, inl, inr, refl, sym, true, ℕ}
use Rattle.std.specs.Prelude.{if◌then◌else◌}
use Rattle.mmc_frame.specs.Frame.{command_in}
use Rattle.mmc_card.specs.declared.exchange.DataIn.{DataIn}
use Rattle.mmc_card.specs.declared.exchange.DataOut.{DataOut}
use Rattle.mmc_card.specs.declared.exchange.Reply.{Reply}
use Rattle.mmc_card.proofs.CardRows as rows
use Rattle.mmc_card.proofs.Conditions.{by_cond}
use Rattle.mmc_card.proofs.Cards as cards
use Rattle.mmc_card.proofs.Cards.{IsBasic}
use Rattle.mmc_card.proofs.Narrow.{sends_data, accepts_in_rcv}
use Rattle.mmc_card.proofs.NarrowSteps.{command_widens, poll_keeps, read_keeps, write_adds}
use Rattle.mmc_card.proofs.Ordered.{IsOrdered, ordered_accepted, ordered_answered, ordered_fallen_short}
use Rattle.mmc_card.proofs.Ordered.{ordered_garbled, ordered_left, ordered_programmed, ordered_raised, ordered_reached}
use Rattle.mmc_card.proofs.Ordered.{ordered_rejected, ordered_reset, ordered_rested, ordered_sent_from, ordered_waited}
use Rattle.mmc_card.proofs.Sending.{IsSending, sending_accepted, sending_answered, sending_fallen_short}
use Rattle.mmc_card.proofs.Sending.{sending_garbled, sending_left, sending_programmed, sending_raised, sending_reached}
use Rattle.mmc_card.proofs.Sending.{sending_rejected, sending_reset, sending_rested, sending_sent_from, sending_waited}
use Rattle.mmc_card.proofs.Settled.{IsSettled, accepts_still, settled_accepted, settled_answered, settled_fallen_short}
use Rattle.mmc_card.proofs.Settled.{settled_garbled, settled_left, settled_programmed, settled_raised, settled_reached}
use Rattle.mmc_card.proofs.Settled.{settled_rejected, settled_reset, settled_rested, settled_sent_from, settled_waited}
use Rattle.mmc_card.proofs.Steps.{after_command, after_write, after_poll, after_read}
use Rattle.mmc_card.specs.CardAnswer.{Choice, left_with, raised, showing}
use Rattle.mmc_card.specs.Card.{AreAmong, AreBlocks, Card, HasItsSizes, IsBlock, IsCard, powered_on, stored}
use Rattle.mmc_card.specs.Laws.{Carried}
use Rattle.mmc_card.specs.ErrorBits.{command_error_bits, error_bits}
use Rattle.mmc_card.specs.Made.{HasRegisters, Made, first_block_length, is_sd, named_block_length, sectors_in}
use Rattle.mmc_card.specs.declared.part.Part.{Part}
use Rattle.mmc_card.specs.Faults.{MeetsBlock, MeetsCommand, PollStep, ReadStep}
use Rattle.mmc_card.specs.declared.command.Command.{Command}
use Rattle.mmc_card.specs.Rows.{leaves_erase, reached}
use Rattle.mmc_card.specs.RowsErase.{holds_address}
use Rattle.mmc_card.specs.Sectors.{Sector}
use Rattle.mmc_card.specs.BusView.{BusView}
use Rattle.mmc_card.proofs.Ordered.{ordered_fallen_early, ordered_ignoring}
use Rattle.mmc_card.proofs.Settled.{settled_fallen_early, settled_ignoring}
use Rattle.mmc_card.proofs.Sending.{sending_fallen_early, sending_ignoring}

pub basic : (c : Card) → IsCard c → IsBasic c
basic c k = record {
  registers = k.registers;
  apart = k.apart;
  finished = k.finished;
  block_length = k.block_length;
  command_errors = k.command_errors;
  errors = k.errors;
  blocks = k.blocks;
  new_values = k.new_values;
}

pub ordered : (c : Card) → IsCard c → IsOrdered c
ordered c k = record {
  held = k.held;
  busy = k.busy;
  rca = k.rca;
  app = k.app;
  inquiries = k.inquiries;
  polled = k.polled;
}

pub settled : (c : Card) → IsCard c → IsSettled c
settled c k = record { fits = k.fits; receives = k.receives; switches = k.switches; source = k.source }

pub sending : (c : Card) → IsCard c → IsSending c
sending c k = record { registers = k.registers; erase_group_def = k.erase_group_def; sends = k.sends }

pub whole : (c : Card) → HasItsSizes c → IsBasic c → IsOrdered c → IsSettled c → IsSending c → IsCard c
whole c sizes b o s g = record {
  sizes = sizes;
  sends = g.sends;
  erase_group_def = g.erase_group_def;
  fits = s.fits;
  receives = s.receives;
  switches = s.switches;
  source = s.source;
  registers = b.registers;
  apart = b.apart;
  held = o.held;
  busy = o.busy;
  rca = o.rca;
  app = o.app;
  inquiries = o.inquiries;
  polled = o.polled;
  finished = b.finished;
  block_length = b.block_length;
  command_errors = b.command_errors;
  errors = b.errors;
  blocks = b.blocks;
  new_values = b.new_values;
}

-- a step keeps the sizes
pub sizes_then : (a b : Card) → Carried a b → IsCard a → HasItsSizes b
sizes_then a b carried k part =
    carried.sizes part ∙ k.sizes part ∙ ap (λ (m : Made). sectors_in m part) (sym carried.made)

reached_sizes : (choice : Choice) (command : Command) (c : Card) → IsCard c → HasItsSizes (reached choice command c)
reached_sizes choice command c k =
    by_cond HasItsSizes (leaves_erase command) (λ _. k.sizes)
    (λ _. by_cond HasItsSizes (holds_address c.erase)
    (λ _. by_cond HasItsSizes choice.drops_quietly (λ _. k.sizes) (λ _. k.sizes)) (λ _. k.sizes))

pub card_reached : (choice : Choice) (command : Command) (c : Card) → IsCard c → IsCard (reached choice command c)
card_reached choice command c k =
    whole _ (reached_sizes choice command c k) (cards.card_reached choice command c (basic c k)) (ordered_reached choice command c (ordered c k))
    (settled_reached choice command c (settled c k)) (sending_reached choice command c (sending c k))

pub card_left : (bits : ℕ) (c : Card) → AreAmong bits command_error_bits → IsCard c → IsCard (left_with bits c)
card_left bits c among k =
    whole _ k.sizes (cards.card_left bits c among (basic c k)) (ordered_left bits c (ordered c k))
    (settled_left bits c (settled c k)) (sending_left bits c (sending c k))

pub card_raised : (bits : ℕ) (c : Card) → AreAmong bits error_bits → IsCard c → IsCard (raised bits c)
card_raised bits c among k =
    whole _ k.sizes (cards.card_raised bits c among (basic c k)) (ordered_raised bits c (ordered c k))
    (settled_raised bits c (settled c k)) (sending_raised bits c (sending c k))

pub card_showing : (left found : ℕ) (c : Card) → AreAmong left command_error_bits → AreAmong found error_bits → IsCard c
    → IsCard (showing left found c)
card_showing left found c among errors k = card_raised found (left_with left c) errors (card_left left c among k)

-- Steps.

pub command_leaves_card : (old : BusView) (frame : List ℕ) (reply : Reply) (new : BusView)
    → MeetsCommand old frame reply new → IsCard old.card → IsCard new.card
command_leaves_card old frame reply new step k =
    let o = ordered old.card k in
    let s = settled old.card k in
    let g = sending old.card k in
    whole new.card (sizes_then old.card new.card (command_widens old frame reply new step).carried k)
    (rows.command_leaves_card old frame reply new step (basic old.card k))
    (after_command IsOrdered old frame reply new o
    (λ choice. ordered_answered choice old.card (command_in frame) o)
    (λ choice left found _ _. ordered_answered choice _ (command_in frame) (ordered_raised found _ (ordered_left left old.card o)))
    (λ keeps. ordered_garbled keeps old.card o) (λ bits card _ k. ordered_raised bits card k)
    (λ lands keeps card _. ordered_reset lands keeps card) step)
    (after_command IsSettled old frame reply new s
    (λ choice. settled_answered choice old.card (command_in frame) s)
    (λ choice left found _ _. settled_answered choice _ (command_in frame) (settled_raised found _ (settled_left left old.card s)))
    (λ keeps. settled_garbled keeps old.card s) (λ bits card _ k. settled_raised bits card k)
    (λ lands keeps card _. settled_reset lands keeps card) step)
    (after_command IsSending old frame reply new g
    (λ choice. sending_answered choice old.card (command_in frame) g)
    (λ choice left found _ _. sending_answered choice _ (command_in frame) (sending_raised found _ (sending_left left old.card g)))
    (λ keeps. sending_garbled keeps old.card g) (λ bits card _ k. sending_raised bits card k) sending_reset step)

pub poll_leaves_card : (old : BusView) (said : Bool) (new : BusView) → PollStep old said new → IsCard old.card
    → IsCard new.card
poll_leaves_card old said new step k =
    let o = ordered old.card k in
    let s = settled old.card k in
    let g = sending old.card k in
    whole new.card (sizes_then old.card new.card (poll_keeps old said new step).carried k)
    (rows.poll_leaves_card old said new step (basic old.card k))
    (after_poll IsOrdered old said new o (ordered_rested old.card o) (λ _. ordered_waited old.card o)
    (λ lands prg. ordered_programmed lands old.card prg o) (λ lands _. ordered_fallen_early lands old.card o)
    (λ lands rcv. ordered_fallen_short lands old.card rcv o) ordered_ignoring
    (λ bits card _ k. ordered_raised bits card k)
    (λ lands keeps card _. ordered_reset lands keeps card) step)
    (after_poll IsSettled old said new s (settled_rested old.card s) (λ _. settled_waited old.card s)
    (λ lands prg. settled_programmed lands old.card prg s) (λ lands _. settled_fallen_early lands old.card s)
    (λ lands _. settled_fallen_short lands old.card s) settled_ignoring
    (λ bits card _ k. settled_raised bits card k)
    (λ lands keeps card _. settled_reset lands keeps card) step)
    (after_poll IsSending old said new g (sending_rested old.card g) (λ _. sending_waited old.card g)
    (λ lands _. sending_programmed lands old.card g) (λ lands _. sending_fallen_early lands old.card g)
    (λ lands _. sending_fallen_short lands old.card g) sending_ignoring
    (λ bits card _ k. sending_raised bits card k)
    sending_reset step)

pub write_leaves_card : (old : BusView) (block : Sector) (got : DataOut) (new : BusView) → IsBlock block
    → MeetsBlock old block got new → IsCard old.card → IsCard new.card
write_leaves_card old block got new h step k =
    let o = ordered old.card k in
    let s = settled old.card k in
    let g = sending old.card k in
    whole new.card (sizes_then old.card new.card (write_adds old block got new step).carried k)
    (rows.write_leaves_card old block got new h step (basic old.card k))
    (after_write IsOrdered old block got new o
    (λ accepts. ordered_accepted block old.card (accepts_in_rcv old.lines old.card accepts) o)
    (λ ignores is_busy accepts. ordered_rejected ignores is_busy old.card (accepts_in_rcv old.lines old.card accepts) o)
    (λ lands accepts.
    let rcv = accepts_in_rcv old.lines old.card accepts in
    ordered_accepted block _ rcv (ordered_fallen_short lands old.card rcv o))
    (λ lands accepts.
    let rcv = accepts_in_rcv old.lines old.card accepts in
    ordered_rejected true false _ rcv (ordered_fallen_short lands old.card rcv o))
    ordered_ignoring
    (λ bits card _ k. ordered_raised bits card k)
    (λ lands keeps card _. ordered_reset lands keeps card) step)
    (after_write IsSettled old block got new s
    (λ accepts. settled_accepted block old.lines old.card accepts s)
    (λ ignores is_busy accepts. settled_rejected ignores is_busy old.card (accepts_in_rcv old.lines old.card accepts) s)
    (λ lands accepts. settled_accepted block old.lines _ (accepts_still lands old.lines old.card accepts)
    (settled_fallen_short lands old.card s))
    (λ lands accepts. settled_rejected true false _ (accepts_in_rcv old.lines old.card accepts)
    (settled_fallen_short lands old.card s))
    settled_ignoring
    (λ bits card _ k. settled_raised bits card k)
    (λ lands keeps card _. settled_reset lands keeps card) step)
    (after_write IsSending old block got new g (λ _. sending_accepted block old.card g)
    (λ ignores is_busy _. sending_rejected ignores is_busy old.card g)
    (λ lands _. sending_accepted block _ (sending_fallen_short lands old.card g))
    (λ lands _. sending_rejected true false _ (sending_fallen_short lands old.card g))
    sending_ignoring
    (λ bits card _ k. sending_raised bits card k) sending_reset step)

pub read_leaves_card : (old : BusView) (size : ℕ) (got : DataIn) (block : Sector) (new : BusView)
    → ReadStep old size got block new → IsCard old.card → IsCard new.card
read_leaves_card old size got block new step k =
    let o = ordered old.card k in
    let s = settled old.card k in
    let g = sending old.card k in
    whole new.card (sizes_then old.card new.card (read_keeps old size got block new step).carried k)
    (rows.read_leaves_card old size got block new step (basic old.card k))
    (after_read IsOrdered old size got block new o
    (λ choice sends. ordered_sent_from old.card.source choice old.card
    (sends_data old.lines size old.card sends) o)
    (λ bits card _ k. ordered_raised bits card k)
    (λ lands keeps card _. ordered_reset lands keeps card) step)
    (after_read IsSettled old size got block new s
    (λ choice sends. settled_sent_from old.card.source choice old.card refl s)
    (λ bits card _ k. settled_raised bits card k)
    (λ lands keeps card _. settled_reset lands keeps card) step)
    (after_read IsSending old size got block new g
    (λ choice _. sending_sent_from old.card.source choice old.card g)
    (λ bits card _ k. sending_raised bits card k) sending_reset step)

-- After power on.

first_by : (is_sd : Bool) (made : Made) → ((if is_sd then 512 else named_block_length made) ≡ 512)
    ⊎ ((if is_sd then 512 else named_block_length made) ≡ named_block_length made)
first_by true made = inl refl
first_by false made = inr refl

named_first : (made : Made) → (first_block_length made ≡ 512) ⊎ (first_block_length made ≡ named_block_length made)
named_first made = first_by (is_sd made.kind) made

pub new_card : (made : Made) (sectors : List (List Sector)) → HasRegisters made
    → HasItsSizes (powered_on made sectors) → ((part : Part) → AreBlocks (stored (powered_on made sectors) part))
    → IsCard (powered_on made sectors)
new_card made sectors registers sizes blocks = record {
  registers = registers;
  sizes = sizes;
  apart = λ h. record {
    width = refl;
    timing = refl;
    erase_group_def = refl;
    part = refl;
    is_busy = refl;
    count = refl;
    erase = refl;
  };
  held = λ h. refl;
  busy = λ h. cc;
  rca = λ h. refl;
  app = λ h. refl;
  inquiries = omega arith;
  polled = omega arith;
  fits = λ some. absurd (omega (arith, some));
  receives = λ h. cc;
  switches = λ h w. refl;
  source = λ h. refl;
  sends = tt;
  erase_group_def = omega arith;
  finished = λ h. refl;
  block_length = named_first made;
  command_errors = refl;
  errors = refl;
  blocks = blocks;
  new_values = tt;
}
