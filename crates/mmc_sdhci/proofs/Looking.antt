-- Looks until a command is over.
use Rattle.std.proofs.Common.{◌%◌, ◌*◌, ◌+◌, ◌/◌, ◌∙◌, ◌≡◌, Option, Some, ap, arith, bit_and, refl, subst, sym, ℕ}
use Rattle.std.proofs.lemmas.Nat.{and_block, and_mask, div-add-mod'}
use Rattle.mmc_frame.specs.Field.{field}
use Rattle.mmc_sdhci.specs.Commands.{Ends}
use Rattle.mmc_sdhci.specs.Controller.{ControllerView, Running, Settled}
use Rattle.mmc_sdhci.specs.CommandLooks.{Look, command_errors, complete, failed, of_a_command, runs}
use Rattle.mmc_sdhci.specs.Accesses.{Looked, Reads, Stays}

-- a command that runs still does, and nothing but what was looked at has changed
abbrev pub OnlyLooked : ControllerView → ControllerView → Type 0
OnlyLooked old new =
    Settled old ((run : Running) → old.running ≡ Some run → new ≡ record old { status = new.status }) new

lowest : (n : ℕ) → n % 0x10000 % 2 ≡ n % 2
lowest n = omega arith

-- the bits of a command, one by one
command_bits : (n : ℕ) → bit_and n of_a_command ≡ (n / 0x10000 % 16) * 0x10000 + n % 2
command_bits n =
    ap (λ m. bit_and m of_a_command) (sym (div-add-mod' n 0x10000))
    ∙ (and_block 16 (n / 0x10000) 15 (n % 0x10000) 1 (omega arith) (omega arith)
    ∙ (ap (λ m. m * 0x10000 + bit_and (n % 0x10000) 1) (and_mask (n / 0x10000) 4)
    ∙ ap (λ m. n / 0x10000 % 16 * 0x10000 + m) (and_mask (n % 0x10000) 1 ∙ lowest n)))

none_of_a_command : (n : ℕ) → bit_and n of_a_command ≡ 0 → (field 0 0 n ≡ 0) × (command_errors n ≡ 0)
none_of_a_command n none =
    let bits = command_bits n in (omega (arith, none, bits), omega (arith, none, bits))

-- what an earlier look showed doesn't matter
from_first : (first after : ControllerView) (run : Running) (status bits : ℕ)
    → Look (record first { status = status }) run bits after → Look first run bits after
from_first first after run status bits (runs zero fine view) = runs zero fine view
from_first first after run status bits (complete answer one fine heard shown view) =
    complete answer one fine heard shown view
from_first first after run status bits (failed error heard view) = failed error heard view

looked_from : (first before after : ControllerView) (run : Running) (bits : ℕ) → first.running ≡ Some run
    → before ≡ record first { status = before.status } → Looked before before.running bits after
    → Look (record first { status = before.status }) run bits after
looked_from first before after run bits is only looked =
    subst (λ (o : Option Running). Looked (record first { status = before.status }) o bits after) is
    (subst (λ (v : ControllerView). Looked v v.running bits after) only looked)

-- the looks before found it running
pub look_after : (first before after : ControllerView) (bits : ℕ) → OnlyLooked first before
    → Reads before 0x30 bits after → Ends first bits after
look_after first before after bits same read kept =
    let shows = read kept in
    let only = same shows.0 in (
      only.0,
      λ run is. from_first first after run before.status bits
          (looked_from first before after run bits is (only.1 run is) (shows.1.interrupts refl)),
    )

still : (first after : ControllerView) (run : Running) (bits : ℕ) → bit_and bits of_a_command ≡ 0
    → Look first run bits after → after ≡ record first { status = after.status }
still first after run bits none (runs zero fine view) = view
still first after run bits none (complete answer is fine heard shown view) =
    let e = (none_of_a_command bits none).0 in absurd (omega (arith, e, is))
still first after run bits none (failed is heard view) = absurd (is (none_of_a_command bits none).1)

-- a look that finds it neither over nor failed
pub look_again : (first before after : ControllerView) (bits : ℕ) → bit_and bits of_a_command ≡ 0
    → OnlyLooked first before → Reads before 0x30 bits after → OnlyLooked first after
look_again first before after bits none same read kept =
    let shows = read kept in
    let only = same shows.0 in (
      only.0,
      λ run is. still first after run bits none (from_first first after run before.status bits
          (looked_from first before after run bits is (only.1 run is) (shows.1.interrupts refl))),
    )

-- nothing happens then
pub stays_so : (first before after : ControllerView) → OnlyLooked first before → Stays before after → OnlyLooked first after
stays_so first before after same stays kept =
    let s = stays kept in
    let only = same s.0 in (
      only.0,
      λ run is. subst (λ (v : ControllerView). v ≡ record first { status = v.status }) (sym s.1) (only.1 run is),
    )

-- none of the looks found it over, and then it was waited
pub runs_still : (first between after : ControllerView) (bits : ℕ) → bits ≡ 0 → Ends first bits between → Stays between after
    → OnlyLooked first after
runs_still first between after bits none ends stays =
    stays_so first between after
    (λ kept.
    let e = ends kept in
    (e.0, λ run is. still first between run bits (ap (λ n. bit_and n of_a_command) none) (e.1 run is)))
    stays

-- one that shows other bits alone
pub looked_in_vain : (first after : ControllerView) → OnlyLooked first after → Ends first 0 after
looked_in_vain first after same kept = let s = same kept in (s.0, λ run is. runs refl refl (s.1 run is))
