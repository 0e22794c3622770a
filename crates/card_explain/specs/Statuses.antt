-- The card status in words (SD Physical Layer 6.00, section 4.10.1; JESD84-B51, section 6.13).
use Rattle.std.specs.Prelude.{ℕ, ◌==◌, Bool, List, [], ◌∷◌, ◌++◌, codes, if◌then◌else◌}
use Rattle.mmc_frame.specs.Field.{field}
use Rattle.mmc_frame.specs.Status.{error_bits}
use Rattle.mmc_frame.specs.StatusBits.{bit_names}
use Rattle.mmc_frame.specs.declared.kind.Kind.{Kind}

-- a bit of a number is 1
abbrev pub is_set : ℕ → ℕ → Bool
is_set number bit = field bit bit number == 1

-- a bit, by its place and its name, where it is set
abbrev pub bit_words : ℕ → ℕ × List ℕ → List ℕ
bit_words errors bit = if is_set errors bit.0 then codes ", " ++ bit.1 else []

-- those of the bits that are set
abbrev pub errors_words : ℕ → List (ℕ × List ℕ) → List ℕ
errors_words errors [] = []
errors_words errors (bit ∷ bits) = bit_words errors bit ++ errors_words errors bits

-- CURRENT_STATE, bits 12 to 9
abbrev pub name_of_state : ℕ → List ℕ
name_of_state state =
    if state == 0 then codes "idle"
    else if state == 1 then codes "ready"
    else if state == 2 then codes "ident"
    else if state == 3 then codes "stby"
    else if state == 4 then codes "tran"
    else if state == 5 then codes "data"
    else if state == 6 then codes "rcv"
    else if state == 7 then codes "prg"
    else if state == 8 then codes "dis"
    else codes "a reserved state"

abbrev pub state_name : ℕ → List ℕ
state_name status = name_of_state (field 12 9 status)

-- READY_FOR_DATA, bit 8
abbrev pub ready_words : ℕ → List ℕ
ready_words status = if field 8 8 status == 1 then codes ", ready" else codes ", not ready"

-- CARD_IS_LOCKED, bit 25
abbrev pub locked_words : ℕ → List ℕ
locked_words status = if field 25 25 status == 1 then codes ", locked" else []

-- the errors by their names, or that there is none
abbrev pub error_part : ℕ → List ℕ
error_part errors = if errors == 0 then codes ", no error" else errors_words errors bit_names

-- the state, whether the card is ready for data, and its errors
unfoldable pub status_words : Kind → ℕ → List ℕ
status_words kind status =
    state_name status ++ (ready_words status ++ (locked_words status ++ error_part (error_bits kind status)))
