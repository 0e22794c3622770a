-- Inputs that were read, or weren't.
use Rattle.std.proofs.Common.{◌≡◌, ℕ, Err, List, None, Ok, Option, Result, Some, inl, inr, subst, sym}
use Rattle.std.specs.Prelude.{IfErr, IfSome, IsErrAnd}
use Rattle.card_text.specs.CardFile.{IsBadCard}
use Rattle.card_text.specs.Script.{lines}
use Rattle.card_text.specs.declared.fault.CardFault.{CardFault}
use Rattle.card_text.specs.declared.fault.CardFault.TheVariants as OfCard
use Rattle.card_served.specs.Faults.{of_card}
use Rattle.card_served.specs.Inputs.{IsCardRefused, IsUnread}
use Rattle.card_served.specs.declared.fault.ServeFault.{ServeFault}
use Rattle.card_served.specs.declared.fault.ServeFault.TheVariants.{ReadCard}

-- what holds of a fault holds of one that is handed on
pub err_is : {X : Type 0} (P : ServeFault → Type 0) (r : Result X ServeFault) (fault : ServeFault)
    → IsErrAnd r (λ e. e ≡ fault) → P fault → IfErr r P
err_is P (Ok x) fault same h = tt
err_is P (Err e) fault same h = subst P (sym same) h

-- what holds of a text that is the file's, as far as its reader tells, holds of the file
pub known_text : (P : List ℕ → Type 0) (file : Option (List ℕ)) (text : List ℕ) → IfSome file (λ all. text ≡ all) → P text
    → IfSome file P
known_text P None text same h = tt
known_text P (Some all) text same h = subst P same h

pub card_unread : (file : Option (List ℕ)) (fault : ServeFault) → IsUnread file 65536 ReadCard fault
    → IsCardRefused file fault
card_unread file fault (inl same) = subst (λ f. IsCardRefused file f) (sym same) tt
card_unread file fault (inr (inl same)) = subst (λ f. IsCardRefused file f) (sym same) tt
card_unread file fault (inr (inr (same, longer))) = subst (λ f. IsCardRefused file f) (sym same) longer

pub bad_card : (file : Option (List ℕ)) (text : List ℕ) (fault : CardFault) → IfSome file (λ all. text ≡ all)
    → IsBadCard (lines text) fault → IsCardRefused file (of_card fault)
bad_card file text (OfCard.BadLine n) same bad =
    known_text (λ all. IsBadCard (lines all) (OfCard.BadLine n)) file text same bad
bad_card file text OfCard.Incomplete same bad =
    known_text (λ all. IsBadCard (lines all) OfCard.Incomplete) file text same bad
bad_card file text OfCard.NoMemory same bad = tt
