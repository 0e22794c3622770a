-- What holds of a card holds after a command, if the row of the command keeps it, and if being hindered and being refused do.
use Rattle.std.proofs.Common.{◌≡◌, true, ℕ}
use Rattle.std.specs.Prelude.{◌==◌, None, Option, Some}
use Rattle.mmc_card.proofs.Conditions.{first_by_cond}
use Rattle.mmc_card.specs.Card.{Card}
use Rattle.mmc_card.specs.CardAnswer.{Choice, garbled, refused, shown}
use Rattle.mmc_card.specs.Rows.{answered, command_of, found, is_foreign, is_legal, reached, responded, row}
use Rattle.mmc_card.specs.declared.command.Command.{Command}

pub after_response : (P : Card → Type 0) (choice : Choice) (command : Command) (c : Card) (index argument : ℕ) → P c
    → (is_legal command c ≡ true → P (row choice command (reached choice command c) index argument).0)
    → P (shown (reached choice command c)) → P (refused (reached choice command c)) → P (responded choice command c index argument).0
after_response P choice command c index argument stays does hinders refuses =
    first_by_cond P (is_foreign command c argument) _ _ (λ _. stays)
    (λ _. first_by_cond P (is_legal command c) _ _
    (λ legal. first_by_cond P (found choice command == 0) _ _ (λ _. does legal) (λ _. hinders)) (λ _. refuses))

-- and after any frame
pub after_answer : (P : Card → Type 0) (choice : Choice) (c : Card) (sent : Option (ℕ × ℕ))
    → ((command : Command) (index argument : ℕ) → P (responded choice command c index argument).0)
    → P (garbled choice.keeps_count c) → P (answered choice c sent).0
after_answer P choice c (Some command) responds garbles = responds (command_of c.made.kind c.app command.0) command.0 command.1
after_answer P choice c None responds garbles = garbles
