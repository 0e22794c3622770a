-- The checks of the data lines, as clocks are added.
use Rattle.std.proofs.Common.{◌≡◌, ℕ, ◌<◌, List, [], ◌∷◌, ◌++◌, false, sym, ap, ◌∙◌}
use Rattle.std.proofs.Common.{replicate, get_or}
use Rattle.std.specs.Prelude.{slice_index_or}
use Rattle.std.proofs.lemmas.List.{get_or-replicate, map-append}
use Rattle.card_wave.specs.declared.sample.Sample.{Sample}
use Rattle.card_wave.specs.LineCheck.{line_check}
use Rattle.card_wave.specs.BlockSamples.{AreChecks, line_bits}
use Rattle.card_wave.proofs.Linear.{line_check_none, line_check-push, pushed_check}

pub none_shown : AreChecks (replicate 8 0) []
unfolding line_bits
none_shown k lt = get_or-replicate 8 k 0 0 lt ∙ sym line_check_none

-- one clock more
pub shown_push : (old new : List ℕ) (s : Sample) → ((k : ℕ) → k < 8 → get_or new k 0
    ≡ pushed_check (get_or old k 0) (get_or s.dat k false)) → (block : List Sample) → AreChecks old block
    → AreChecks new (block ++ s ∷ [])
unfolding line_bits
shown_push old new s pushed block h k lt =
    pushed k lt
    ∙ ap (λ n. pushed_check n (get_or s.dat k false)) (h k lt)
    ∙ sym (line_check-push (line_bits k block) (get_or s.dat k false))
    ∙ ap line_check (sym (map-append (λ (x : Sample). slice_index_or x.dat k false) block (s ∷ [])))
