-- The text of a planned fault.
use Rattle.std.specs.Prelude.{ℕ, List, [], ◌∷◌, Option, None, Some, codes, if◌then◌else◌, min, option_and_then, option_map}
use Rattle.std.specs.Int.{from_be_bytes, w32}
use Rattle.std.specs.Str.{bytes_eq}
use Rattle.mmc_card_rows.specs.declared.fault.CommandError.{CommandError}
use Rattle.mmc_card_rows.specs.declared.fault.CommandError.TheVariants.{ComCrc, Illegal}
use Rattle.mmc_card_sim.specs.declared.fault.Fault.{Fault}
use Rattle.mmc_card_sim.specs.declared.fault.Fault.TheVariants.{BadBlock, Brownout, Busy, Fail, FailWith, FlipCommand}
use Rattle.mmc_card_sim.specs.declared.fault.Fault.TheVariants.{FailSwitch, FailSwitchLate, FlipReply, LeaveOver}
use Rattle.mmc_card_sim.specs.declared.fault.Fault.TheVariants.{LoseCommand, LoseReply, LoseStatus, NoBlock, ReadError}
use Rattle.mmc_card_sim.specs.declared.fault.Fault.TheVariants.{FailEarly, FailUnseen, FindError, FindProtection, LoseBlock, LoseFailedSwitch}
use Rattle.mmc_card_sim.specs.declared.fault.Fault.TheVariants.{Reject, RejectAll, RejectBusy, ShowError}
use Rattle.mmc_card_sim.specs.declared.fault.Flips.{Flips}
use Rattle.mmc_card_rows.specs.declared.fault.Outcome.{Outcome}
use Rattle.mmc_card_rows.specs.declared.fault.Outcome.TheVariants.{New, Old}
use Rattle.card_text.specs.Hexadecimal.{bytes_of}
use Rattle.card_text.specs.Numbers.{number_of}

-- no frame has 255 bits, so that a larger position is past the frame as 255 is
unfoldable pub position_of : List ℕ → Option ℕ
position_of text = option_map (λ n. min n 255) (number_of text)

-- one position, or two
unfoldable pub flips_of : List (List ℕ) → Option Flips
flips_of (a ∷ []) = option_map (λ first. record { first = first; second = None }) (position_of a)
flips_of (a ∷ b ∷ []) =
    option_and_then
    (λ first. option_map (λ second. record { first = first; second = Some second }) (position_of b))
    (position_of a)
flips_of words = None

-- the one word, where there is no other
unfoldable pub lone_word_of : List (List ℕ) → Option (List ℕ)
lone_word_of (word ∷ []) = Some word
lone_word_of words = None

-- `old` or `new`
unfoldable pub outcome_in : List ℕ → Option Outcome
outcome_in word =
    if bytes_eq word (codes "old") then Some Old
    else (if bytes_eq word (codes "new") then Some New else None)

unfoldable pub outcome_of : List (List ℕ) → Option Outcome
outcome_of words = option_and_then (λ word. outcome_in word) (lone_word_of words)

-- `crc` or `illegal`
unfoldable pub command_error_in : List ℕ → Option CommandError
command_error_in word =
    if bytes_eq word (codes "crc") then Some ComCrc
    else (if bytes_eq word (codes "illegal") then Some Illegal else None)

unfoldable pub command_error_of : List (List ℕ) → Option CommandError
command_error_of words = option_and_then (λ word. command_error_in word) (lone_word_of words)

-- error bits as a status has them, in 8 digits
unfoldable pub error_bits_of : List (List ℕ) → Option ℕ
error_bits_of words =
    option_map (λ bytes. from_be_bytes w32 bytes) (option_and_then (λ word. bytes_of 4 word) (lone_word_of words))

-- an outcome alone, or with error bits as a status has them, in 8 digits
unfoldable pub failure_of : List (List ℕ) → Option Fault
failure_of (word ∷ []) = option_map (λ outcome. Fail outcome) (outcome_in word)
failure_of (word ∷ digits ∷ []) =
    option_and_then
    (λ outcome. option_map (λ bytes. FailWith outcome (from_be_bytes w32 bytes)) (bytes_of 4 digits)) (outcome_in word)
failure_of words = None

-- what fails so, but early: without error bits it is ERROR
abbrev pub early_failure : Fault → Fault
early_failure (Fail outcome) = FailEarly outcome 0x00080000
early_failure (FailWith outcome bits) = FailEarly outcome bits
early_failure fault = fault

-- or unseen
abbrev pub unseen_failure : Fault → Fault
unseen_failure (Fail outcome) = FailUnseen outcome 0x00080000
unseen_failure (FailWith outcome bits) = FailUnseen outcome bits
unseen_failure fault = fault

-- a fault that one word says: of a switch, of a block that is lost, or of what a card does besides
unfoldable pub further_lone_fault_of : List ℕ → Option Fault
further_lone_fault_of word =
    if bytes_eq word (codes "fail-switch") then Some FailSwitch
    else (if bytes_eq word (codes "fail-switch-late") then Some FailSwitchLate
    else (if bytes_eq word (codes "lose-failed-switch") then Some LoseFailedSwitch
    else (if bytes_eq word (codes "find-protection") then Some FindProtection
    else (if bytes_eq word (codes "lose-block") then Some LoseBlock
    else (if bytes_eq word (codes "reject-busy") then Some RejectBusy else None)))))

-- a fault that one word says
unfoldable pub lone_fault_of : List ℕ → Option Fault
lone_fault_of word =
    if bytes_eq word (codes "lose-command") then Some LoseCommand
    else (if bytes_eq word (codes "lose-reply") then Some LoseReply
    else (if bytes_eq word (codes "bad-block") then Some BadBlock
    else (if bytes_eq word (codes "no-block") then Some NoBlock
    else (if bytes_eq word (codes "read-error") then Some ReadError
    else (if bytes_eq word (codes "reject") then Some Reject
    else (if bytes_eq word (codes "reject-all") then Some RejectAll
    else (if bytes_eq word (codes "busy") then Some Busy
    else further_lone_fault_of word)))))))

-- a fault whose name has further words
unfoldable pub fault_with_words_of : List ℕ → List (List ℕ) → Option Fault
fault_with_words_of name words =
    if bytes_eq name (codes "flip-command") then option_map (λ flips. FlipCommand flips) (flips_of words)
    else (if bytes_eq name (codes "flip-reply") then option_map (λ flips. FlipReply flips) (flips_of words)
    else (if bytes_eq name (codes "left-over") then option_map (λ error. LeaveOver error) (command_error_of words)
    else (if bytes_eq name (codes "show-error") then option_map (λ bits. ShowError bits) (error_bits_of words)
    else (if bytes_eq name (codes "find-error") then option_map (λ bits. FindError bits) (error_bits_of words)
    else (if bytes_eq name (codes "lose-status") then option_map (λ outcome. LoseStatus outcome) (outcome_of words)
    else (if bytes_eq name (codes "fail") then failure_of words
    else (if bytes_eq name (codes "fail-early") then option_map (λ fault. early_failure fault) (failure_of words)
    else (if bytes_eq name (codes "fail-unseen") then option_map (λ fault. unseen_failure fault) (failure_of words)
    else (if bytes_eq name (codes "brownout") then option_map (λ outcome. Brownout outcome) (outcome_of words)
    else None)))))))))

-- the text of a fault, by its fields
unfoldable pub fault_of : List (List ℕ) → Option Fault
fault_of [] = None
fault_of (name ∷ []) = lone_fault_of name
fault_of (name ∷ words) = fault_with_words_of name words
