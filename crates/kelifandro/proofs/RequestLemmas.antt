-- A request of C, before its run and after it.
use borrow.Rule.Slice.PartMut.{mid_of, put_mid, put_same}
use Rattle.std.proofs.Common.{◌∙◌, ◌≡◌, ap, refl, subst, sym}
use Rattle.std.proofs.lemmas.Bool.{false≢true}
use Rattle.std.specs.Prelude.{Bool, Err, IfOk, List, None, Ok, Option, Result, Some, false, option_map, true, ℕ}
use Rattle.c_host.specs.Run.{holding}
use Rattle.c_host.specs.declared.lent.SectorsMut.{SectorsMut}
use Rattle.mmc_bus.specs.Lending.{IsRewritten}
use Rattle.mmc_bus.specs.Lending.IsRewritten.{block, nothing}
use Rattle.mmc_card.specs.Sectors.{AreRead, Sector, Sets}
use Rattle.mmc_card.specs.declared.part.Part.{Part}
use Rattle.mmc_switch.specs.declared.broken.Broken.{Broken}
use Rattle.mmc_switch.specs.declared.session.Session.{Session}

-- blocks that a run left hold what it read
pub has_read : (result : Result Session Broken) (sets : Sets) (part left_part : Part) (start left_start : ℕ)
    (blocks left : List Sector) → left_part ≡ part → left_start ≡ start → left ≡ blocks
    → IfOk result (λ ready. AreRead sets left_part left_start left) → IfOk result (λ ready. AreRead sets part start blocks)
has_read result sets part left_part start left_start blocks left same_part same_start same has =
    subst (λ p. IfOk result (λ ready. AreRead sets p start blocks)) same_part
    (subst (λ n. IfOk result (λ ready. AreRead sets left_part n blocks)) same_start
    (subst (λ (b : List Sector). IfOk result (λ ready. AreRead sets left_part left_start b)) same has))

-- a run over blocks that are lent leaves the memory that they are in
pub same_memory : {blocks : SectorsMut → List Sector} {put : SectorsMut → ℕ → List ℕ → List Sector} {old new : SectorsMut}
    → IsRewritten blocks (λ lent i left. holding lent (put lent i left)) old new → new.blocks.ghost_name ≡ old.blocks.ghost_name
same_memory nothing = refl
same_memory (block now i left first less size) = same_memory first

-- what doesn't read has nothing to show
pub shows_none : (result : Result Session Broken) (reads : Bool) (Holds : Session → Type 0) → reads ≡ false
    → IfOk result (λ ready. reads ≡ true → Holds ready)
shows_none (Ok session) reads Holds none = λ is. absurd (false≢true (sym none ∙ is))
shows_none (Err broken) reads Holds none = tt

-- what a record means, once its partition is found
pub meant_as : {A : Type 0} (named : Part → A) (found : Option Part) (meant : A) (part : Part)
    → Some meant ≡ option_map named found → found ≡ Some part → meant ≡ named part
meant_as named None meant part is found = absurd cc
meant_as named (Some other) meant part is found =
    let was : meant ≡ named other = cc in
    let same : other ≡ part = cc in
    was ∙ ap named same

-- and what is so of any partition is so of that
pub meant_so : {A : Type 0} (Holds : A → Type 0) (named : Part → A) (found : Option Part) (meant : A)
    → Some meant ≡ option_map named found → ((part : Part) → Holds (named part)) → Holds meant
meant_so Holds named None meant is each = absurd cc
meant_so Holds named (Some part) meant is each =
    let was : meant ≡ named part = cc in subst Holds (sym was) (each part)

-- a part that is put back as it was leaves the whole as it was
pub kept_part : {X : Type 0} (from count : ℕ) (blocks part was : List X) → part ≡ mid_of from count blocks → blocks ≡ was
    → put_mid from count blocks part ≡ was
kept_part {X} from count blocks part was same kept =
    ap (λ (p : List X). put_mid from count blocks p) same ∙ put_same from count blocks ∙ kept
