use Rattle.std.proofs.Common.{◌≡◌, ◌<◌, ◌^◌, ℕ, get_or, take}
use Rattle.std.specs.Int.{IsInRange}
use Rattle.std.specs.Str.Parse.{digits_value}
use Rattle.card_text.proofs.number.number.Given as goal

abbrev pub invariant-loop-digit : goal.invariant-loop-digit
invariant-loop-digit l = record {
  digits : (i : ℕ) → i < l.digit-index → IsInRange 48 57 (get_or l.digits i 0);
  small : l.number < 2 ^ 64;
  number_is : l.number ≡ digits_value 10 (take l.digit-index l.digits);
}
