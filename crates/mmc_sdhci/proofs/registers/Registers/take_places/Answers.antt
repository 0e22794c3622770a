use Rattle.std.proofs.Common.{[], ◌*◌, ◌+◌, ◌-◌, ◌<◌, ◌∙◌, ◌≡◌, ◌≤◌, List, Some, ap, arith, inl, inr, length, refl, sym, ℕ}
use Rattle.std.specs.Prelude.{◌==◌, slice_index_or, slice_range}
use Rattle.mmc_sdhci.proofs.ByDma.{before_or_at}
use Rattle.mmc_sdhci.proofs.Ranges.{other_range, this_range, with_range}
use Rattle.mmc_sdhci.specs.Controller.{ControllerView, Settled}
use Rattle.mmc_sdhci.specs.Lent.{Come}
use Rattle.mmc_sdhci.specs.Lending.{TakesPlace}
use borrow.Rule.Slice.PartMut.{same_len_mid}
use Rattle.mmc_sdhci.proofs.registers.Registers.take_places.Goals as goal

abbrev SoFar : ControllerView → ℕ → ℕ → List ℕ → ControllerView → Type 0
SoFar old index count bytes new =
    Settled old
    ((new ≡ old)
    × ((come : List (List ℕ)) → old.dma.lent ≡ Some (Come come) → (j : ℕ) → j < count
    → slice_range bytes (512 * j) (512 * j + 512) ≡ slice_index_or come (index + j) []))
    new

-- one place more was taken
one_more : (v0 v w : ControllerView) (index i : ℕ) (bytes left : List ℕ) → 512 * i + 512 ≤ length bytes → length left ≡ 512
    → SoFar v0 index i bytes v → TakesPlace v (index + i) left w → SoFar v0 index (i + 1) (with_range i bytes left) w
one_more v0 v w index i bytes left inside long so_far takes kept =
    let t = takes kept in
    let before = so_far t.0 in (
      before.0,
      (
        t.1.0 ∙ before.1.0,
        λ come lent j less. elim (before_or_at j i (j == i) refl less) [
          | inl same ↦ ap (λ n. slice_range (with_range i bytes left) (512 * n) (512 * n + 512)) same
              ∙ (this_range i bytes left inside long
              ∙ (t.1.1 come (ap (λ (u : ControllerView). u.dma.lent) before.1.0 ∙ lent)
              ∙ sym (ap (λ n. slice_index_or come (index + n) []) same)))
          | inr before_it ↦ other_range i bytes left inside long j before_it ∙ before.1.1 come lent j before_it
        ],
      ),
    )

pub loop-i-preserved : goal.loop-i-preserved
loop-i-preserved g c =
    let i = c.loop-i.i in
    let bytes = c.loop-i.blocks in
    let same = c.loop-i.invariant.0 in
    let left = c.take_place.new.block in
    let copied : c.copy_from_slice.new.self ≡ left = c.copy_from_slice.ensures.after in
    let inside : 512 * i + 512 ≤ length bytes = omega (arith, c.loop-i-test.true, same) in (
      same_len_mid (512 * i) (512 * i + 512 - 512 * i) bytes c.copy_from_slice.new.self c.copy_from_slice.ensures.len ∙ same,
      rw copied (one_more (g.Self.Registers.view c.args.self.now) (g.Self.Registers.view c.loop-i.self)
          (g.Self.Registers.view c.take_place.new.self) c.args.index i bytes left inside c.take_place.ensures.whole
          c.loop-i.invariant.1 c.take_place.ensures.takes),
    )
