-- Whatever lines a host has, it refuses the same requests, if the card tells it the same of its write protection.
use Rattle.std.proofs.Common.{◌≡◌, ◌∙◌, Option, ap, refl, sym, ℕ}
use Rattle.mmc_card.specs.Made.{Made}
use Rattle.mmc_card.specs.declared.exchange.Lines.{Lines}
use Rattle.mmc_card.specs.declared.part.Part.{Part}
use Rattle.mmc_erase.specs.Job.{are_units}
use Rattle.mmc_switch.specs.Info.{IsInfo}
use Rattle.mmc_switch.specs.Sizes.{size_of, some_size}
use Rattle.mmc_switch.specs.declared.info.Info.{Info}
use Rattle.mmc_requests.specs.Kinds.{is_read}
use Rattle.mmc_requests.specs.Refusal.{change_refusal, erase_refusal, first_of, refusal_within, refused_unless}
use Rattle.mmc_requests.specs.declared.kind.Kind.{Kind}
use Rattle.mmc_requests.specs.declared.kind.Kind.TheVariants.{Erase, Read, Trim, Write}
use Rattle.mmc_requests.specs.declared.refused.Refused.{Refused as Reason}
use Rattle.mmc_requests.specs.declared.refused.Refused.TheVariants.{NoTrim, ReadOnly, Unaligned}
use Rattle.mmc_requests.specs.declared.limits.TheConstants.{MAX_COUNT}
use Rattle.mmc_queue.specs.Requests.{count_of, kind_of, part_of, start_of}
use Rattle.mmc_queue.specs.declared.request.Request.{Request}
use Rattle.mmc_block.specs.Refusal.{first_refusal, no_bytes, no_change, no_place, no_sectors, refused_for}
use Rattle.std.specs.Prelude.{Some, if◌then◌else◌, not, option_map, ◌&&◌, Bool}

module _ (l m : Lines) (made : Made) (a b : Info) (p : IsInfo l made a) (q : IsInfo m made b)
    (told : a.read_only ≡ b.read_only) where
  size_same : (part : Part) → size_of a.sizes part ≡ size_of b.sizes part
  size_same part = p.sizes part ∙ sym (q.sizes part)

  unit_same : a.erase_unit ≡ b.erase_unit
  unit_same = p.erase_unit ∙ sym q.erase_unit

  erase_same : (kind : Kind) (part : Part) (start count : ℕ)
      → erase_refusal kind a part start count ≡ erase_refusal kind b part start count
  erase_same Read part start count = refl
  erase_same Write part start count = refl
  erase_same Erase part start count =
      ap (λ (unit : ℕ). refused_unless (are_units unit (size_of a.sizes part) start count) part Unaligned) unit_same
      ∙ ap (λ (room : ℕ). refused_unless (are_units b.erase_unit room start count) part Unaligned) (size_same part)
  erase_same Trim part start count = ap (λ (may : Bool). refused_unless may part NoTrim) (p.trims ∙ sym q.trims)

  change_same : (kind : Kind) (part : Part) (start count : ℕ)
      → change_refusal kind a part start count ≡ change_refusal kind b part start count
  change_same kind part start count =
      ap (λ (read_only : Bool). if read_only && not (is_read kind) then Some ReadOnly else erase_refusal kind a part start count)
      told
      ∙ ap (λ (why : Option Reason). if b.read_only && not (is_read kind) then Some ReadOnly else why)
      (erase_same kind part start count)

  pub refused_alike : (waiting next : ℕ) (request : Request)
      → first_refusal a waiting next request ≡ first_refusal b waiting next request
  refused_alike waiting next request =
      ap (λ (size : ℕ). first_of
      (option_map refused_for (refusal_within MAX_COUNT (kind_of request) (start_of request) (count_of request) (some_size size)))
      (first_of (no_bytes request) (first_of (no_change a request) (no_place waiting next)))) (size_same (part_of request))
      ∙ ap (λ (why : Option Reason). first_of (no_sectors b request)
      (first_of (no_bytes request) (first_of (option_map refused_for why) (no_place waiting next))))
      (change_same (kind_of request) (part_of request) (start_of request) (count_of request))
