-- Blocks are counted off one by one, or so many at once.
use Rattle.std.proofs.Common.{◌-◌, ◌<◌, ◌∙◌, ◌≡◌, ◌≤◌, ap, arith, inl, inr, refl, suc, sym, zero, ℕ}
use Rattle.std.proofs.lemmas.Bool.{cases_lt, cond_above, cond_below}
use Rattle.mmc_host.specs.HostStates.{fewer, less_by, less_one}
use Rattle.mmc_host.specs.declared.data.Data.{Data}
use Rattle.mmc_host.specs.declared.data.Data.TheVariants.{Nothing}

module _ (rest : ℕ → Data) (one : (count : ℕ) → less_one (rest count) ≡ fewer count rest) where
  pub some_left : (done all : ℕ) → done < all → less_by done (rest all) ≡ rest (all - done)
  some_left zero all some = ap (λ count. rest count) (omega arith)
  some_left (suc done) all some =
      let again : 1 < all - done = omega (arith, some) in
      ap less_one (some_left done all (omega (arith, some))) ∙ one (all - done)
      ∙ sym (cond_below 1 (all - done) (rest (all - done - 1)) Nothing again)
      ∙ ap (λ count. rest count) (omega arith)

  last_left : (count : ℕ) → count ≤ 1 → fewer count rest ≡ Nothing
  last_left count few = sym (cond_above 1 count (rest (count - 1)) Nothing Nothing few refl)

  none_left : (done all : ℕ) → all ≤ suc done → less_by (suc done) (rest all) ≡ Nothing
  none_left zero all few = one all ∙ last_left all few
  none_left (suc done) all few =
      elim (cases_lt (suc done) all) [
        | inl some ↦ ap less_one (some_left (suc done) all some) ∙ one (all - suc done) ∙ last_left (all - suc done) (omega (arith, few))
        | inr none ↦ ap less_one (none_left done all none)
      ]

  pub all_gone : (count all : ℕ) → (count ≡ 0 → ⊥) → all ≤ count → less_by count (rest all) ≡ Nothing
  all_gone zero all some few = absurd (some refl)
  all_gone (suc done) all some few = none_left done all few

-- what is nothing stays
pub stays : (count : ℕ) (transfer : Data) → less_one transfer ≡ transfer → less_by count transfer ≡ transfer
stays zero transfer same = refl
stays (suc done) transfer same = ap less_one (stays done transfer same) ∙ same
