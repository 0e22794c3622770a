-- The bit at a place of the list, and those after it.
use Rattle.std.proofs.Common.{◌≡◌, ◌<◌, ◌+◌, ℕ, List, [], ◌++◌, length, drop, get_or, sym, ap, ◌∙◌, drop-cons, add-one, false}
use Rattle.std.specs.Prelude.{map}
use Rattle.mmc_frame.specs.StatusBits.{named}
use Rattle.mmc_frame.specs.declared.status_bits.Clearing.TheVariants.{ByState}
use Rattle.mmc_frame.specs.declared.status_bits.Standard.TheVariants.{Both}
use Rattle.mmc_frame.specs.declared.status_bits.StatusBit.{StatusBit}
use Rattle.card_explain.specs.Statuses.{bit_words, errors_words}

abbrev pub no_bit : StatusBit
no_bit = record {
  place = 0;
  name = record { ref_ptr = (0, 0); now = [] };
  mmc_name = record { ref_ptr = (0, 0); now = [] };
  standard = Both;
  meaning = record { ref_ptr = (0, 0); now = [] };
  is_error = false;
  clearing = ByState;
}

pub errors_at : (errors : ℕ) (bits : List StatusBit) (i : ℕ) → i < length bits
    → errors_words errors (map named (drop i bits))
    ≡ bit_words errors (named (get_or bits i no_bit)) ++ errors_words errors (map named (drop (i + 1) bits))
errors_at errors bits i lt = ap (λ left. errors_words errors (map named left)) (drop-cons bits i no_bit lt)
    ∙ ap (λ n. bit_words errors (named (get_or bits i no_bit)) ++ errors_words errors (map named (drop n bits)))
    (sym (add-one i))
