-- What a check of registers has written, by how it ended.
use Rattle.std.proofs.Common.{List, Option, Some, [], ap, append-nil, subst, sym, ◌++◌, ◌∙◌, ◌≡◌, ℕ}
use Rattle.std.specs.Io.KnownBytes.{Appends}
use Rattle.text_out.proofs.WritingLemmas.{appends_more, front_after, front_before}
use Rattle.text_out.specs.Writing.{AppendsFront}
use Rattle.mmc_card_rows.specs.declared.store.TheConstants.{MAX_LARGE}
use Rattle.mmc_card_sim.specs.CardSpec.{refusal_within}
use Rattle.mmc_card_sim.specs.declared.spec.BuildFault.{BuildFault}
use Rattle.mmc_card_sim.specs.declared.spec.BuildFault.TheVariants.{ImageSize}
use Rattle.mmc_card_sim.specs.declared.spec.CardSpec.{CardSpec}
use Rattle.card_check.specs.Registers.{contradictions, registers_text, size_text}

module _ (spec : CardSpec) (old mid new : Option (List ℕ)) where
  -- a fault within the registers
  pub broken_registers : AppendsFront old new (registers_text spec) → AppendsFront old new (contradictions spec)
  broken_registers p = front_before old new (registers_text spec) (size_text (refusal_within MAX_LARGE spec)) p

  -- the card isn't too large
  pub said_registers : (refusal : Option BuildFault) → refusal_within MAX_LARGE spec ≡ refusal → size_text refusal ≡ []
      → Appends old new (registers_text spec) → Appends old new (contradictions spec)
  said_registers refusal is none p =
      subst (Appends old new)
      (sym (ap (λ t. registers_text spec ++ t) (ap size_text is ∙ none) ∙ append-nil (registers_text spec))) p

  -- it is, and a fault within that
  pub broken_size : refusal_within MAX_LARGE spec ≡ Some ImageSize → Appends old mid (registers_text spec)
      → AppendsFront mid new (size_text (Some ImageSize)) → AppendsFront old new (contradictions spec)
  broken_size is p q =
      subst (λ t. AppendsFront old new (registers_text spec ++ t)) (sym (ap size_text is))
      (front_after old mid new (registers_text spec) (size_text (Some ImageSize)) p q)

  pub said_size : refusal_within MAX_LARGE spec ≡ Some ImageSize → Appends old mid (registers_text spec)
      → Appends mid new (size_text (Some ImageSize)) → Appends old new (contradictions spec)
  said_size is p q =
      subst (λ t. Appends old new (registers_text spec ++ t)) (sym (ap size_text is))
      (appends_more old mid new (registers_text spec) (size_text (Some ImageSize)) p q)
