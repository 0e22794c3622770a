-- A text that was read of an input, which tells its bytes or not.
use Rattle.std.proofs.Common.{◌≡◌, ℕ, Err, List, Ok, Option, None, Result, Some, refl, subst, sym, true}
use Rattle.std.proofs.lemmas.Bool.{false≢true}
use Rattle.std.specs.Prelude.{IfOk, IfSome, is_none, is_some}
use Rattle.mmc_card.specs.Profile.{InProfile}
use Rattle.mmc_card_rows.specs.declared.store.TheConstants.{MAX_LARGE}
use Rattle.mmc_card_sim.specs.CardSpec.{refusal_within}
use Rattle.mmc_card_sim.specs.Registers.{made_of}
use Rattle.mmc_card_sim.specs.declared.spec.CardSpec.{CardSpec}
use Rattle.card_text.specs.CardFile.{IsCardFile}
use Rattle.card_text.specs.Planning.{PlannedFault}
use Rattle.card_text.specs.Script.{lines}
use Rattle.card_check.specs.Unopened.{IsPlain}
use Rattle.card_commands.specs.Checked.{DescribesCard, is_opened}
use Rattle.card_commands.specs.declared.check.Checked.{Checked}

pub described : (remaining : Option (List ℕ)) (text : List ℕ) → IfSome remaining (λ all. text ≡ all)
    → DescribesCard text → IfSome remaining DescribesCard
described None text same card = tt
described (Some all) text same card = subst DescribesCard same card

none_is : {A : Type 0} (o : Option A) → is_none o ≡ true → o ≡ None
none_is None h = refl
none_is (Some x) h = cc h

-- registers of which the number of sectors is told are taken
pub taken_by : {A : Type 0} (checked : Option ℕ) (sectors : ℕ) (refusal : Option A) → checked ≡ Some sectors
    → is_some checked ≡ is_none refusal → refusal ≡ None
taken_by (Some n) sectors refusal is taken = none_is refusal (sym taken)
taken_by None sectors refusal is taken = cc is

-- A card file that is read describes a card where its registers are taken and the card is opened.
pub described_by : {E : Type 0} (text : List ℕ) (spec : CardSpec)
    → (plan : List PlannedFault) × IsCardFile (lines text) spec plan → (r : Result (Option Checked) E)
    → IfOk r (λ checked. IfSome checked (λ card. (refusal_within MAX_LARGE spec ≡ None)
    × (card.is_opened ≡ true → IsPlain (made_of spec.registers) → InProfile (made_of spec.registers))))
    → IfOk r (λ checked. is_opened checked ≡ true → DescribesCard text)
described_by text spec read (Ok None) known = λ opened. absurd (false≢true opened)
described_by text spec read (Ok (Some card)) known = λ opened. (spec, read.0, read.1, known.0, known.1 opened)
described_by text spec read (Err fault) known = tt
