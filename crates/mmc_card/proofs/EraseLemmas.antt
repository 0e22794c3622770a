-- CMD38 alone erases.
use Rattle.std.proofs.Common.{◌<◌, ◌≡◌, Bool, false, refl, true, ℕ}
use Rattle.std.specs.Prelude.{◌==◌, ◌||◌, None, not}
use Rattle.std.proofs.lemmas.Bool.{agree_below_at, eqb-true}
use Rattle.mmc_frame.specs.declared.kind.Kind.{Kind}
use Rattle.mmc_frame.specs.declared.kind.Kind.TheVariants.{Mmc, Sd}
use Rattle.mmc_card.proofs.Conditions.{neither}
use Rattle.mmc_card.specs.Card.{Card}
use Rattle.mmc_card.specs.Laws.{erased_by_command}
use Rattle.mmc_card.specs.declared.command.Command.{Command}
use Rattle.mmc_card.specs.declared.command.Command.TheVariants.{Erase}
use Rattle.mmc_card.specs.Rows.{command_of}

-- no other index than CMD38's means an erase
abbrev is_erase : Command → Bool
is_erase Erase = true
is_erase _ = false

erase_named : (kind : Kind) (app : Bool) (index : ℕ) → index < 64
    → ((index == 38) || not (is_erase (command_of kind app index))) ≡ true
erase_named Sd true index h =
    agree_below_at (λ i. (i == 38) || not (is_erase (command_of Sd true i))) (λ i. true) 64 index refl h
erase_named Sd false index h =
    agree_below_at (λ i. (i == 38) || not (is_erase (command_of Sd false i))) (λ i. true) 64 index refl h
erase_named Mmc true index h =
    agree_below_at (λ i. (i == 38) || not (is_erase (command_of Mmc true i))) (λ i. true) 64 index refl h
erase_named Mmc false index h =
    agree_below_at (λ i. (i == 38) || not (is_erase (command_of Mmc false i))) (λ i. true) 64 index refl h

erased_none : (command : Command) (card : Card) (argument : ℕ) → is_erase command ≡ false
    → erased_by_command command card argument ≡ None
erased_none Erase card argument h = cc
erased_none _ card argument h = refl

false_by : (b : Bool) → (b ≡ true → ⊥) → b ≡ false
false_by true h = absurd (h refl)
false_by false h = refl

pub erases_none : (card : Card) (kind : Kind) (app : Bool) (index argument : ℕ) → index < 64 → (index ≡ 38 → ⊥)
    → erased_by_command (command_of kind app index) card argument ≡ None
erases_none card kind app index argument below other =
    erased_none (command_of kind app index) card argument
    (neither (index == 38) (is_erase (command_of kind app index)) (erase_named kind app index below)
    (false_by (index == 38) (λ e. other (eqb-true index 38 e))))
