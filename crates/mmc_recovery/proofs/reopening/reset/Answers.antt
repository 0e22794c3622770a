use Rattle.std.proofs.Common.{◌∙◌, ◌≡◌, ap, subst, sym}
use Rattle.mmc_switch.specs.Info.{IsKnown, lasting, used_as}
use Rattle.mmc_switch.specs.declared.info.Info.{Info}
use Rattle.mmc_switch.specs.declared.session.Session.{Session}
use Rattle.mmc_recovery.proofs.ReopenLemmas.{resets_none, resets_other, resets_so}
use Rattle.mmc_recovery.proofs.reopening.reset.Goals as goal

pub returns-in_default-clause-moves : goal.returns-in_default-clause-moves
returns-in_default-clause-moves g c kept =
    resets_none c.args.broken c.give_up.result c.in_default.field-0 (g.B.Bus.view c.args.bus.now)
    (g.B.Bus.view c.initialize_in.new.bus)
    c.give_up.ensures (c.in_default.ensures.moves kept)

pub returns-then-is_same-clause-ok : goal.returns-then-is_same-clause-ok
returns-then-is_same-clause-ok g c =
    let session = c.in-Ok.session in
    let uses : c.used_as.result.info ≡ used_as c.info-2.result.now c.info.result.now =
    ap (λ (s : Session). s.info) c.used_as.ensures.uses
    ∙ ap (λ (before : Info). used_as before session.info) (c.info-then-is_same.ensures ∙ sym c.info-2.ensures)
    ∙ ap (used_as c.info-2.result.now) (sym c.info.ensures) in (
      ap lasting uses ∙ c.is_same.ensures.same c.if-is_same.true ∙ ap lasting c.info-2.ensures,
      ap (λ (s : Session). s.selected) c.used_as.ensures.uses ∙ c.in-Ok.ensures.user,
    )

pub returns-then-is_same-clause-moves : goal.returns-then-is_same-clause-moves
returns-then-is_same-clause-moves g c kept =
    resets_so c.args.broken c.in-Ok.session c.used_as.result (g.B.Bus.view c.args.bus.now) (g.B.Bus.view c.initialize_in.new.bus)
    (λ view known. c.used_as.ensures.ready view
    (subst (IsKnown view.limits view.card.made) (sym c.info-then-is_same.ensures) known))
    (c.in-Ok.ensures.moves kept)

pub returns-else-is_same-clause-moves : goal.returns-else-is_same-clause-moves
returns-else-is_same-clause-moves g c kept =
    resets_other c.args.broken c.give_up-else-is_same.result c.in-Ok.session c.info.result.now c.info-2.result.now c.is_same.result
    (g.B.Bus.view c.args.bus.now) (g.B.Bus.view c.initialize_in.new.bus) c.give_up-else-is_same.ensures c.info.ensures
    c.info-2.ensures c.if-is_same.false c.is_same.ensures.known (c.in-Ok.ensures.moves kept)
