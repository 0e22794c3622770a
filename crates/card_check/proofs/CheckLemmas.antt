-- What a check of a card file has written, by how it ended.
use Rattle.std.proofs.Common.{◌≡◌, ℕ, Bool, List, Option, inl, inr, refl, subst}
use Rattle.std.specs.Io.KnownBytes.{Appends}
use Rattle.text_out.proofs.WritingLemmas.{appends_more, front_after, front_before}
use Rattle.text_out.specs.Writing.{AppendsFront}
use Rattle.card_text.specs.CardFile.{IsFirstBadCardLine, IsIncomplete, kind_in}
use Rattle.card_check.specs.Checks.{AreListed, all_findings}
use Rattle.card_check.specs.Missing.{is_sd, missing_texts}
use Rattle.card_check.specs.WrongLines.{findings_text}

module _ (all : List (List ℕ)) (old mid new : Option (List ℕ)) where
  -- a fault within the findings
  pub broken_findings : AppendsFront old new (findings_text all) → AppendsFront old new (all_findings all)
  broken_findings p = front_before old new (findings_text all) (missing_texts (is_sd (kind_in all)) all) p

  -- a fault after them
  pub broken_after : Appends old new (findings_text all) → AppendsFront old new (all_findings all)
  broken_after p = (findings_text all, missing_texts (is_sd (kind_in all)) all, refl, p)

  -- a fault within the keys that are missing
  pub broken_missing : (sd : Bool) → sd ≡ is_sd (kind_in all) → Appends old mid (findings_text all)
      → AppendsFront mid new (missing_texts sd all) → AppendsFront old new (all_findings all)
  broken_missing sd same p q =
      front_after old mid new (findings_text all) (missing_texts (is_sd (kind_in all)) all) p
      (subst (λ b. AppendsFront mid new (missing_texts b all)) same q)

  -- some line is bad
  pub listed_bad : (n : ℕ) → IsFirstBadCardLine (kind_in all) all n → Appends old new (findings_text all)
      → AreListed old new all
  listed_bad n bad p = inl (n, bad, p)

  -- keys are missing
  pub listed_missing : (sd : Bool) → sd ≡ is_sd (kind_in all) → IsIncomplete all → Appends old mid (findings_text all)
      → Appends mid new (missing_texts sd all) → AreListed old new all
  listed_missing sd same incomplete p q =
      inr (
        incomplete,
        appends_more old mid new (findings_text all) (missing_texts (is_sd (kind_in all)) all) p
            (subst (λ b. Appends mid new (missing_texts b all)) same q),
      )
