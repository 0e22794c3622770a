-- Each step of a card leaves a card.
use Rattle.std.proofs.Common.{◌++◌, ◌∙◌, ◌∷◌, ◌≡◌, ◌⊎◌, Bool, List, [], ap, arith, false, inl, inr, length, refl, suc}
use Rattle.std.proofs.Common.{sym, true, zero, ℕ}
use Rattle.std.specs.Prelude.{bit_or, if◌then◌else◌, replicate, slice_index_or}
use Rattle.mmc_frame.specs.Status.{state_number}
use Rattle.mmc_frame.specs.declared.card_state.State.{State}
use Rattle.mmc_frame.specs.declared.card_state.State.TheVariants.{Data, Dis, Ident, Idle, Prg, Rcv, Ready, Stby, Tran}
use Rattle.mmc_card.specs.declared.part.Part.{Part}
use Rattle.mmc_card.proofs.Conditions.{along, by_cond}
use Rattle.mmc_card.proofs.Landing.{one_set}
use Rattle.mmc_card.specs.CardAnswer.{Choice, done, garbled, left_with, raised, refused, reset, shown}
use Rattle.mmc_card.specs.Blocks.{fallen_early, fallen_short, programmed, rested, waited}
use Rattle.mmc_card.specs.Card.{AreAmong, AreBlocks, Card, IsApart, IsBlock, NoAddress, is_in, is_selected, is_writing}
use Rattle.mmc_card.specs.Card.{landed, landed_in, stored}
use Rattle.mmc_card.specs.ErrorBits.{com_crc_error, command_error_bits, erase_reset, error_bits, illegal_command}
use Rattle.mmc_card.specs.Made.{HasRegisters, named_block_length}
use Rattle.mmc_card.specs.declared.command.Command.{Command}
use Rattle.mmc_card.specs.Rows.{leaves_erase, reached}
use Rattle.mmc_card.specs.RowsErase.{forgotten, holds_address}
use Rattle.mmc_card.specs.Sectors.{Sector, part_number}
use Rattle.std.proofs.lemmas.Nat.Bits.{bit_at_or, same_from_bits}
use Rattle.std.proofs.lemmas.Bool.{eqb-true}

-- Bits.

or_assoc : (a b c : ℕ) → bit_or (bit_or a b) c ≡ bit_or a (bit_or b c)
or_assoc a b c = same_from_bits _ _ (λ i. simp bit_at_or (omega arith))

-- one more bit of those
pub among_more : (bits more all : ℕ) → AreAmong bits all → AreAmong more all → AreAmong (bit_or bits more) all
among_more bits more all h k = or_assoc bits more all ∙ ap (λ n. bit_or bits n) k ∙ h

-- bits that are among some of them
pub among_wider : (bits some all : ℕ) → AreAmong bits some → AreAmong some all → AreAmong bits all
among_wider bits some all h k =
    ap (λ n. bit_or bits n) (sym k) ∙ sym (or_assoc bits some all) ∙ ap (λ n. bit_or n all) h ∙ k

-- States.

abbrev pub state_numbered : ℕ → State
state_numbered zero = Idle
state_numbered (suc zero) = Ready
state_numbered (suc (suc zero)) = Ident
state_numbered (suc (suc (suc zero))) = Stby
state_numbered (suc (suc (suc (suc zero)))) = Tran
state_numbered (suc (suc (suc (suc (suc zero))))) = Data
state_numbered (suc (suc (suc (suc (suc (suc zero)))))) = Rcv
state_numbered (suc (suc (suc (suc (suc (suc (suc zero))))))) = Prg
state_numbered (suc (suc (suc (suc (suc (suc (suc (suc n)))))))) = Dis

numbered_state : (s : State) → state_numbered (state_number s) ≡ s
numbered_state Idle = refl
numbered_state Ready = refl
numbered_state Ident = refl
numbered_state Stby = refl
numbered_state Tran = refl
numbered_state Data = refl
numbered_state Rcv = refl
numbered_state Prg = refl
numbered_state Dis = refl

pub in_state : (s t : State) → is_in s t ≡ true → s ≡ t
in_state s t h =
    sym (numbered_state s) ∙ ap state_numbered (eqb-true (state_number s) (state_number t) h) ∙ numbered_state t

apart_rests : (s : State) → is_selected s ≡ false → is_writing s ≡ false
apart_rests Idle h = refl
apart_rests Ready h = refl
apart_rests Ident h = refl
apart_rests Stby h = refl
apart_rests Tran h = cc
apart_rests Data h = cc
apart_rests Rcv h = cc
apart_rests Prg h = cc
apart_rests Dis h = refl

-- What holds of each card by itself.
pub record IsBasic (card : Card) : Type 0 where
  pub registers : HasRegisters card.made
  pub apart : is_selected card.state ≡ false → IsApart card
  pub finished : is_writing card.state ≡ false → card.values ≡ []
  pub block_length : (card.block_length ≡ 512) ⊎ (card.block_length ≡ named_block_length card.made)
  pub command_errors : AreAmong card.command_errors command_error_bits
  pub errors : AreAmong card.errors error_bits
  pub blocks : (part : Part) → AreBlocks (stored card part)
  pub new_values : AreBlocks card.values

-- Blocks.

pub blocks_some : (lands : ℕ → Bool) (i : ℕ) (vs xs : List Sector) → AreBlocks vs → AreBlocks xs
    → AreBlocks (landed_in lands i vs xs)
blocks_some lands i vs [] v x = tt
blocks_some lands zero [] (x ∷ xs) v h = h
blocks_some lands zero (w ∷ vs) (x ∷ xs) v h =
    (by_cond IsBlock (lands (length vs)) (λ _. v.0) (λ _. h.0), blocks_some lands zero vs xs v.1 h.1)
blocks_some lands (suc i) vs (x ∷ xs) v h = (h.0, blocks_some lands i vs xs v h.1)

pub blocks_snoc : (vs : List Sector) (block : Sector) → AreBlocks vs → IsBlock block → AreBlocks (vs ++ block ∷ [])
blocks_snoc [] block v h = (h, tt)
blocks_snoc (x ∷ vs) block v h = (v.0, blocks_snoc vs block v.1 h)

pub blocks_replicate : (n : ℕ) (x : Sector) → IsBlock x → AreBlocks (replicate n x)
blocks_replicate zero x h = tt
blocks_replicate (suc n) x h = (h, blocks_replicate n x h)

blocks_landed : (lands : ℕ → Bool) (c : Card) → IsBasic c → (p : Part)
    → AreBlocks (slice_index_or (landed lands c) (part_number p) [])
blocks_landed lands c k p =
    let new = landed_in lands c.start c.values (stored c c.part) in
    elim (one_set c.sectors (part_number c.part) new [] (part_number p)) [
      | inl o ↦ along AreBlocks o (k.blocks p)
      | inr n ↦ along AreBlocks n.1
          (blocks_some lands c.start c.values (stored c c.part) k.new_values (k.blocks c.part))
    ]

same_blocks : (c d : Card) → d.sectors ≡ c.sectors → IsBasic c → (p : Part) → AreBlocks (stored d p)
same_blocks c d st k p =
    along (λ (ss : List (List Sector)). AreBlocks (slice_index_or ss (part_number p) [])) st (k.blocks p)

-- Makers.

-- what a step leaves alone in each case
pub record IsLike (c d : Card) : Type 0 where
  pub made : d.made ≡ c.made
  pub block_length : (d.block_length ≡ c.block_length) ⊎ (d.block_length ≡ 512)
      ⊎ (d.block_length ≡ named_block_length c.made)
  pub command_errors : AreAmong d.command_errors command_error_bits
  pub errors : AreAmong d.errors error_bits

block_length_like : (c d : Card) → IsBasic c → IsLike c d
    → (d.block_length ≡ 512) ⊎ (d.block_length ≡ named_block_length d.made)
block_length_like c d k l =
    elim l.block_length [
      | inl same ↦ elim k.block_length [
        | inl h ↦ inl (same ∙ h)
        | inr h ↦ inr (same ∙ h ∙ ap named_block_length (sym l.made))
      ]
      | inr h ↦ elim h [
        | inl h ↦ inl h
        | inr h ↦ inr (h ∙ ap named_block_length (sym l.made))
      ]
    ]

pub made_card : (c d : Card) → IsBasic c → IsLike c d → (is_selected d.state ≡ false → IsApart d)
    → (is_writing d.state ≡ false → d.values ≡ []) → ((p : Part) → AreBlocks (stored d p)) → AreBlocks d.values
    → IsBasic d
made_card c d k l apart finished blocks new_values = record {
  registers = along HasRegisters l.made k.registers;
  apart = apart;
  finished = finished;
  block_length = block_length_like c d k l;
  command_errors = l.command_errors;
  errors = l.errors;
  blocks = blocks;
  new_values = new_values;
}

-- The state is as it was, and so is all that counts there.
pub stays_card : (c d : Card) → IsBasic c → IsLike c d → d.state ≡ c.state → d.sectors ≡ c.sectors → d.values ≡ c.values
    → d.width ≡ c.width → d.timing ≡ c.timing → d.erase_group_def ≡ c.erase_group_def → d.part ≡ c.part
    → (c.is_busy ≡ false → d.is_busy ≡ false) → (c.count ≡ 0 → d.count ≡ 0)
    → (c.erase ≡ NoAddress → d.erase ≡ NoAddress) → IsBasic d
stays_card c d k l state sectors values width timing group part busy count erase =
    made_card c d k l
    (λ h. let a = k.apart (ap is_selected (sym state) ∙ h) in
    record {
      width = width ∙ a.width;
      timing = timing ∙ a.timing;
      erase_group_def = group ∙ a.erase_group_def;
      part = part ∙ a.part;
      is_busy = busy a.is_busy;
      count = count a.count;
      erase = erase a.erase;
    })
    (λ h. values ∙ k.finished (ap is_writing (sym state) ∙ h))
    (same_blocks c d sectors k)
    (along AreBlocks values k.new_values)

-- From a state with the card not selected to another one.
pub apart_card : (c d : Card) → IsBasic c → IsLike c d → is_selected c.state ≡ false → is_writing d.state ≡ false
    → d.sectors ≡ c.sectors → d.values ≡ c.values → d.width ≡ c.width → d.timing ≡ c.timing
    → d.erase_group_def ≡ c.erase_group_def → d.part ≡ c.part → d.is_busy ≡ c.is_busy → d.count ≡ 0 → d.erase ≡ c.erase
    → IsBasic d
apart_card c d k l down rests sectors values width timing group part busy count erase =
    let a = k.apart down in
    made_card c d k l
    (λ h. record {
      width = width ∙ a.width;
      timing = timing ∙ a.timing;
      erase_group_def = group ∙ a.erase_group_def;
      part = part ∙ a.part;
      is_busy = busy ∙ a.is_busy;
      count = count;
      erase = erase ∙ a.erase;
    })
    (λ h. values ∙ k.finished (apart_rests c.state down))
    (same_blocks c d sectors k)
    (along AreBlocks values k.new_values)

-- The card is selected after it.
pub chosen_card : (c d : Card) → IsBasic c → IsLike c d → is_selected d.state ≡ true → d.sectors ≡ c.sectors
    → (is_writing d.state ≡ false → d.values ≡ []) → AreBlocks d.values → IsBasic d
chosen_card c d k l up sectors finished new_values =
    made_card c d k l (λ h. cc (up, h)) finished (same_blocks c d sectors k) new_values

-- after a response with a status, one without, and a command that isn't carried out
pub like_shown : (c d : Card) → d.made ≡ c.made → d.block_length ≡ c.block_length → d.command_errors ≡ 0 → d.errors ≡ 0
    → IsLike c d
like_shown c d m b x y = record {
  made = m;
  block_length = inl b;
  command_errors = along (λ n. AreAmong n command_error_bits) x refl;
  errors = along (λ n. AreAmong n error_bits) y refl;
}

pub like_done : (c d : Card) → IsBasic c → d.made ≡ c.made → d.block_length ≡ c.block_length → d.command_errors ≡ 0
    → d.errors ≡ c.errors → IsLike c d
like_done c d k m b x y = record {
  made = m;
  block_length = inl b;
  command_errors = along (λ n. AreAmong n command_error_bits) x refl;
  errors = along (λ n. AreAmong n error_bits) y k.errors;
}

pub like_same : (c d : Card) → IsBasic c → d.made ≡ c.made → d.block_length ≡ c.block_length
    → d.command_errors ≡ c.command_errors → d.errors ≡ c.errors → IsLike c d
like_same c d k m b x y = record {
  made = m;
  block_length = inl b;
  command_errors = along (λ n. AreAmong n command_error_bits) x k.command_errors;
  errors = along (λ n. AreAmong n error_bits) y k.errors;
}

-- it has these errors of a command to show besides
like_left : (bits : ℕ) (c d : Card) → AreAmong bits command_error_bits → IsBasic c → d.made ≡ c.made
    → d.block_length ≡ c.block_length → d.command_errors ≡ bit_or c.command_errors bits → d.errors ≡ c.errors → IsLike c d
like_left bits c d among k m b x y = record {
  made = m;
  block_length = inl b;
  command_errors = along (λ n. AreAmong n command_error_bits) x
      (among_more c.command_errors bits command_error_bits k.command_errors among);
  errors = along (λ n. AreAmong n error_bits) y k.errors;
}

pub card_shown : (c : Card) → IsBasic c → IsBasic (shown c)
card_shown c k =
    stays_card c (shown c) k (like_shown c _ refl refl refl refl) refl refl refl refl refl refl refl (λ h. h)
    (λ h. refl) (λ h. h)

pub card_done : (c : Card) → IsBasic c → IsBasic (done c)
card_done c k =
    stays_card c (done c) k (like_done c _ k refl refl refl refl) refl refl refl refl refl refl refl (λ h. h)
    (λ h. refl) (λ h. h)

pub card_told : (accepted : Bool) (c : Card) → IsBasic c → IsBasic (record (done c) { accepted_cmd8 = accepted })
card_told accepted c k =
    stays_card c _ k (like_done c _ k refl refl refl refl) refl refl refl refl refl refl refl (λ h. h) (λ h. refl)
    (λ h. h)

pub card_app : (c : Card) → IsBasic c → IsBasic (record (shown c) { app = true })
card_app c k =
    stays_card c _ k (like_shown c _ refl refl refl refl) refl refl refl refl refl refl refl (λ h. h) (λ h. refl)
    (λ h. h)

pub card_forgotten : (c : Card) → IsBasic c → IsBasic (forgotten (shown c))
card_forgotten c k =
    stays_card c _ k (like_shown c _ refl refl refl refl) refl refl refl refl refl refl refl (λ h. h) (λ h. refl)
    (λ h. refl)

pub card_refused : (c : Card) → IsBasic c → IsBasic (refused c)
card_refused c k =
    stays_card c (refused c) k (like_left illegal_command c _ refl k refl refl refl refl) refl refl refl refl refl refl refl (λ h. h) (λ h. refl) (λ h. h)

pub card_left : (bits : ℕ) (c : Card) → AreAmong bits command_error_bits → IsBasic c → IsBasic (left_with bits c)
card_left bits c among k =
    stays_card c (left_with bits c) k (like_left bits c _ among k refl refl refl refl) refl refl refl refl refl refl refl (λ h. h) (λ h. h) (λ h. h)

pub card_garbled : (keeps : Bool) (c : Card) → IsBasic c → IsBasic (garbled keeps c)
card_garbled keeps c k =
    stays_card c (garbled keeps c) k (like_left com_crc_error c _ refl k refl refl refl refl) refl refl refl refl refl refl refl (λ h. h)
    (λ h. by_cond (λ n. n ≡ 0) keeps (λ _. h) (λ _. refl)) (λ h. h)

-- error bits are raised
pub card_raised : (bits : ℕ) (c : Card) → AreAmong bits error_bits → IsBasic c → IsBasic (raised bits c)
card_raised bits c among k =
    stays_card c (raised bits c) k
    (record {
      made = refl;
      block_length = inl refl;
      command_errors = k.command_errors;
      errors = among_more c.errors bits error_bits k.errors among;
    })
    refl refl refl refl refl refl refl (λ h. h) (λ h. h) (λ h. h)

card_without : (c : Card) → IsBasic c → IsBasic (forgotten c)
card_without c k =
    stays_card c _ k (like_same c _ k refl refl refl refl) refl refl refl refl refl refl refl (λ h. h) (λ h. h) (λ h. refl)

card_dropped : (c : Card) → IsBasic c → IsBasic (raised erase_reset (forgotten c))
card_dropped c k =
    stays_card c _ k
    (record {
      made = refl;
      block_length = inl refl;
      command_errors = k.command_errors;
      errors = among_more c.errors erase_reset error_bits k.errors refl;
    })
    refl refl refl refl refl refl refl (λ h. h) (λ h. h) (λ h. refl)

pub card_reached : (choice : Choice) (command : Command) (c : Card) → IsBasic c → IsBasic (reached choice command c)
card_reached choice command c k =
    by_cond IsBasic (leaves_erase command) (λ _. k)
    (λ _. by_cond IsBasic (holds_address c.erase)
    (λ _. by_cond IsBasic choice.drops_quietly (λ _. card_without c k) (λ _. card_dropped c k)) (λ _. k))

-- it stays, or is the one that the registers name
length_by : (keeps_length : Bool) (was named : ℕ) → ((if keeps_length then was else named) ≡ was)
    ⊎ ((if keeps_length then was else named) ≡ 512) ⊎ ((if keeps_length then was else named) ≡ named)
length_by true was named = inl refl
length_by false was named = inr (inr refl)

pub card_reset : (lands : ℕ → Bool) (keeps_length : Bool) (c : Card) → IsBasic c → IsBasic (reset lands keeps_length c)
card_reset lands keeps_length c k =
    made_card c (reset lands keeps_length c) k
    (record {
      made = refl;
      block_length = length_by keeps_length c.block_length (named_block_length c.made);
      command_errors = refl;
      errors = refl;
    })
    (λ h. record {
      width = refl;
      timing = refl;
      erase_group_def = refl;
      part = refl;
      is_busy = refl;
      count = refl;
      erase = refl;
    })
    (λ h. refl) (blocks_landed lands c k) tt

pub card_programmed : (lands : ℕ → Bool) (c : Card) → IsBasic c → IsBasic (programmed lands c)
card_programmed lands c k =
    made_card c (programmed lands c) k (like_same c _ k refl refl refl refl) (λ h. cc) (λ h. refl)
    (blocks_landed lands c k) tt

pub card_fallen_short : (lands : ℕ → Bool) (c : Card) → is_in c.state Rcv ≡ true → IsBasic c
    → IsBasic (fallen_short lands c)
card_fallen_short lands c rcv k =
    made_card c (fallen_short lands c) k (like_same c _ k refl refl refl refl)
    (λ h. cc (ap is_selected (in_state c.state Rcv rcv), h)) (λ h. refl) (blocks_landed lands c k) tt

pub card_fallen_early : (lands : ℕ → Bool) (c : Card) → is_in c.state Prg ≡ true → IsBasic c
    → IsBasic (fallen_early lands c)
card_fallen_early lands c prg k =
    made_card c (fallen_early lands c) k (like_same c _ k refl refl refl refl)
    (λ h. cc (ap is_selected (in_state c.state Prg prg), h)) (λ h. refl) (blocks_landed lands c k) tt

pub card_rested : (c : Card) → IsBasic c → IsBasic (rested c)
card_rested c k =
    by_cond IsBasic (is_in c.state Prg) (λ _. card_programmed (λ i. true) c k)
    (λ _. stays_card c _ k (like_same c _ k refl refl refl refl) refl refl refl refl refl refl refl (λ h. refl)
    (λ h. h) (λ h. h))

pub card_slow : (c : Card) → IsBasic c → IsBasic (waited c)
card_slow c k =
    stays_card c _ k (like_same c _ k refl refl refl refl) refl refl refl refl refl refl refl (λ h. h) (λ h. h) (λ h. h)
