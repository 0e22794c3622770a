use Rattle.std.proofs.Common.{◌∙◌}
use Rattle.mmc_card.specs.declared.response.Response.TheVariants as To
use Rattle.sdhci_model.proofs.Commanding.{completes, fails, noted_after, runs_on}
use Rattle.sdhci_model.proofs.engine.Engine.see_command.Goals as goal

pub returns-then-is_silent : goal.returns-then-is_silent
returns-then-is_silent g c =
    runs_on g.S.HasStory.story c.args.self.now.diary.past c.args.self.now.state c.see_nothing.new.self c.args.run c.see_nothing.ensures

pub returns-in-Err : goal.returns-in-Err
returns-in-Err g c =
    fails g.S.HasStory.story c.args.self.now.diary.past c.note_command.new.self.diary.past c.args.self.now.state
    c.note_command.new.self.state c.fail_command.new.self c.args.run To.Nothing c.in-Err.fault c.bits_of-bits.result
    c.bits_of-bits.ensures
    (noted_after _ _ _ _ _ _ c.note_command.ensures.past c.send.ensures.past c.send.ensures.state)
    (c.note_command.ensures.state ∙ c.send.ensures.state) c.fail_command.ensures

pub returns-in-Ok : goal.returns-in-Ok
returns-in-Ok g c =
    completes g.S.HasStory.story c.args.self.now.diary.past c.note_command-in-Ok.new.self.diary.past c.args.self.now.state
    c.note_command-in-Ok.new.self.state c.complete.new.self c.args.run c.in-Ok.told.response c.in-Ok.told.heard c.in-Ok.told.words
    c.in-Ok.ensures.told.type c.in-Ok.ensures.told.fits
    (noted_after _ _ _ _ _ _ c.note_command-in-Ok.ensures.past c.send.ensures.past c.send.ensures.state)
    (c.note_command-in-Ok.ensures.state ∙ c.send.ensures.state) c.complete.ensures
