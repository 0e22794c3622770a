-- What a request of C keeps over its runs.
use Rattle.std.specs.Prelude.{◌≡◌, List, if◌then◌else◌, ℕ}
use Rattle.std.proofs.Common.{◌∙◌, ap, refl}
use Rattle.mmc_card.specs.Sectors.{Sector}
use Rattle.mmc_card.specs.declared.part.Part.{Part}
use Rattle.mmc_direct.specs.Asked.{asked_at}
use Rattle.mmc_switch.specs.Info.{lasting}
use Rattle.mmc_switch.specs.declared.info.Info.{Info}
use Rattle.mmc_requests.specs.ChangeLaws.{change_by_lasting, change_by_values}
use Rattle.mmc_requests.specs.Changes.{change_by}
use Rattle.mmc_requests.specs.Kinds.{is_read, moves_blocks}
use Rattle.mmc_requests.specs.declared.kind.Kind.{Kind}
use Rattle.kelifandro.specs.Asked.{Leaves, asked_of, change_of}
use Rattle.kelifandro.specs.declared.request.CRequest.{CRequest}

pub unmoved : (request : CRequest) → Leaves request request
unmoved request = record {
  kind = refl;
  part = refl;
  start = refl;
  count = refl;
  memory = refl;
  length = refl;
  kept = λ other. refl;
}

pub in_turn : (first second third : CRequest) → Leaves first second → Leaves second third → Leaves first third
in_turn first second third x y = record {
  kind = y.kind ∙ x.kind;
  part = y.part ∙ x.part;
  start = y.start ∙ x.start;
  count = y.count ∙ x.count;
  memory = y.memory ∙ x.memory;
  length = y.length ∙ x.length;
  kept = λ other. y.kept (ap is_read x.kind ∙ other) ∙ x.kept other;
}

-- what names as many sectors of the same partition, to do the same with them, asks for the same
same_asked : {kind was_kind : Kind} {part was_part : Part} {start was_start count was_count blocks was_blocks : ℕ} → kind ≡ was_kind
    → part ≡ was_part → start ≡ was_start → count ≡ was_count → blocks ≡ was_blocks
    → asked_at kind part start (if moves_blocks kind then blocks else count)
    ≡ asked_at was_kind was_part was_start (if moves_blocks was_kind then was_blocks else was_count)
same_asked kind part start count blocks = rw (kind, part, start, count, blocks)

pub asks_the_same : (old new : CRequest) → Leaves old new → asked_of new ≡ asked_of old
asks_the_same old new left = same_asked left.kind left.part left.start left.count left.length

-- and changes the same, by the same values
same_change : {kind was_kind : Kind} (info : Info) {part was_part : Part} {start was_start count was_count : ℕ} (blocks : List Sector)
    → kind ≡ was_kind → part ≡ was_part → start ≡ was_start → count ≡ was_count
    → change_by kind info part start count blocks ≡ change_by was_kind info was_part was_start was_count blocks
same_change info blocks kind part start count = rw (kind, part, start, count)

pub changes_the_same : (info : Info) (old new : CRequest) → Leaves old new → change_of info new ≡ change_of info old
changes_the_same info old new left =
    same_change info new.blocks.now left.kind left.part left.start left.count
    ∙ change_by_values old.kind info old.part old.start old.count old.blocks.now new.blocks.now left.kept

pub changes_by_lasting : (now info : Info) (request : CRequest) → lasting now ≡ lasting info
    → change_of now request ≡ change_of info request
changes_by_lasting now info request same =
    change_by_lasting request.kind now info request.part request.start request.count request.blocks.now same
