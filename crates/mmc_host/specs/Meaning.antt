-- Which command a frame holds, where both kinds have one with its index.
use Rattle.std.specs.Prelude.{◌≡◌, Bool, false, ℕ}
use Rattle.mmc_frame.specs.Field.{field}
use Rattle.mmc_frame.specs.declared.commands.TheConstants as Index
use Rattle.mmc_frame.specs.declared.kind.Kind.{Kind}
use Rattle.mmc_frame.specs.declared.kind.Kind.TheVariants.{Mmc, Sd}
use Rattle.mmc_card.specs.declared.command.Command.TheVariants.{Unknown}
use Rattle.mmc_card.specs.Rows.{command_of}

-- The argument has the form of this kind's command: CMD3, CMD6 and CMD8 (SD Physical Layer 6.00, sections 4.3.10 and 4.7.4;
-- JESD84-B51, sections 6.6.1 and 6.10.4).
abbrev pub HasForm : Kind → ℕ → ℕ → Type 0
HasForm Sd index argument =
    (index ≡ Index.SEND_RELATIVE_ADDR → argument ≡ 0) × (index ≡ Index.SWITCH_FUNC → field 25 24 argument ≡ 0)
    × (index ≡ Index.SEND_IF_COND → argument ≡ 0 → ⊥)
HasForm Mmc index argument =
    (index ≡ Index.SEND_RELATIVE_ADDR → argument ≡ 0 → ⊥) × (index ≡ Index.SWITCH_FUNC → field 25 24 argument ≡ 0 → ⊥)
    × (index ≡ Index.SEND_IF_COND → argument ≡ 0)

-- a command that this kind knows, in its form; an eMMC device has no application commands
pub record IsSentTo (kind : Kind) (app : Bool) (index argument : ℕ) : Type 0 where
  pub is_known : command_of kind app index ≡ Unknown → ⊥
  pub form : HasForm kind index argument
  pub plain : kind ≡ Mmc → app ≡ false
