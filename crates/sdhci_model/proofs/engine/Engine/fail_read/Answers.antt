use Rattle.std.proofs.Common.{subst}
use Rattle.sdhci_model.specs.Moves.{Breaks}
use Rattle.sdhci_model.specs.declared.state.State.{State}
use Rattle.sdhci_model.proofs.Moving.{read_failed}
use Rattle.sdhci_model.proofs.engine.Engine.fail_read.Goals as goal

pub returns : goal.returns
returns g c =
    read_failed g.S.HasStory.story c.args.self.now.diary.past c.note.new.self.diary.past c.args.self.now.state
    c.break_data.new.self c.bits_of_read-bits.result c.args.length c.args.got _ c.requires c.bits_of_read-bits.ensures.error
    (c.bits_of_read-bits.ensures.came c.requires)
    (subst (λ (x : State). Breaks x c.bits_of_read-bits.result c.break_data.new.self) c.note.ensures.state c.break_data.ensures)
    c.note.ensures.past
