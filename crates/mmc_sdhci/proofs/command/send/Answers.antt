use Rattle.std.proofs.Common.{◌∙◌, arith, inl, inr, sym}
use Rattle.mmc_sdhci.proofs.Sending.{dropped_lent, dropped_rests, heard_lent, heard_moves, heard_rests, lost, lost_lent, lost_moves, lost_rests}
use Rattle.mmc_sdhci.proofs.Sending.{sent, sent_and_dropped}
use Rattle.mmc_sdhci.proofs.command.send.Goals.{then-bits-eq0-via-else-bits-eq0+then-bits-ne0, then-bits-eq0-via-then-bits-eq0}
use Rattle.mmc_sdhci.proofs.command.send.Goals as goal

pub returns-then-bits-eq0-clause-sent : goal.returns-then-bits-eq0-clause-sent
returns-then-bits-eq0-clause-sent g c =
    lost (g.R.Registers.view c.args.registers.now) (g.R.Registers.view c.begin.new.registers)
    (g.R.Registers.view c.wait-bits.new.registers) (g.R.Registers.view c.reset_command.new.registers)
    (g.R.Registers.view c.reset_data.new.registers) c.args.command c.args.mover c.wait-bits.result c.fault_in.result
    (elim c.then-bits-eq0.branch [
      | then-bits-eq0-via-then-bits-eq0 w ↦ inl (omega (arith, w.if-bits-eq0))
      | then-bits-eq0-via-else-bits-eq0+then-bits-ne0 w ↦ inr w.if-bits-ne0.true
    ])
    c.begin.ensures c.wait-bits.ensures.ends c.reset_command.ensures c.reset_data.ensures

pub returns-then-not-has_data-clause-sent : goal.returns-then-not-has_data-clause-sent
returns-then-not-has_data-clause-sent g c =
    sent (g.R.Registers.view c.args.registers.now) (g.R.Registers.view c.begin.new.registers)
    (g.R.Registers.view c.wait-bits.new.registers) (g.R.Registers.view c.hear-heard.new.registers) c.args.command
    c.args.mover c.wait-bits.result c.hear-heard.result (λ h. omega (arith, h, c.if-bits-eq0.false))
    (omega (arith, c.if-bits-ne0.false)) c.begin.ensures c.wait-bits.ensures.ends c.hear-heard.ensures.tells

pub returns-clause-sent : goal.returns-clause-sent
returns-clause-sent g c =
    sent_and_dropped (g.R.Registers.view c.args.registers.now) (g.R.Registers.view c.begin.new.registers)
    (g.R.Registers.view c.wait-bits.new.registers) (g.R.Registers.view c.hear-heard.new.registers)
    (g.R.Registers.view c.reset_data-2.new.registers) c.args.under_way c.args.command c.args.mover c.wait-bits.result c.hear-heard.result
    (λ h. omega (arith, h, c.if-bits-eq0.false)) (omega (arith, c.if-bits-ne0.false)) (sym c.has_data.ensures ∙ c.if-not-has_data.false) c.requires.free
    c.begin.ensures c.wait-bits.ensures.ends c.hear-heard.ensures.tells c.reset_data-2.ensures

pub returns-then-bits-eq0-clause-rest : goal.returns-then-bits-eq0-clause-rest
returns-then-bits-eq0-clause-rest g c by =
    lost_rests (g.R.Registers.view c.args.registers.now) (g.R.Registers.view c.begin.new.registers)
    (g.R.Registers.view c.wait-bits.new.registers) (g.R.Registers.view c.reset_command.new.registers)
    (g.R.Registers.view c.reset_data.new.registers) c.args.command c.args.mover c.wait-bits.result
    (elim c.then-bits-eq0.branch [
      | then-bits-eq0-via-then-bits-eq0 w ↦ inl (omega (arith, w.if-bits-eq0))
      | then-bits-eq0-via-else-bits-eq0+then-bits-ne0 w ↦ inr w.if-bits-ne0.true
    ])
    c.requires.rest c.begin.ensures c.wait-bits.ensures.ends c.reset_command.ensures c.reset_data.ensures

pub returns-then-bits-eq0-clause-moves : goal.returns-then-bits-eq0-clause-moves
returns-then-bits-eq0-clause-moves g c =
    lost_moves (g.R.Registers.view c.args.registers.now) (g.R.Registers.view c.begin.new.registers)
    (g.R.Registers.view c.wait-bits.new.registers) (g.R.Registers.view c.reset_command.new.registers)
    (g.R.Registers.view c.reset_data.new.registers) c.args.command c.args.mover c.wait-bits.result
    (elim c.then-bits-eq0.branch [
      | then-bits-eq0-via-then-bits-eq0 w ↦ inl (omega (arith, w.if-bits-eq0))
      | then-bits-eq0-via-else-bits-eq0+then-bits-ne0 w ↦ inr w.if-bits-ne0.true
    ])
    c.requires.rest c.begin.ensures c.wait-bits.ensures.ends c.reset_command.ensures c.reset_data.ensures

pub returns-then-bits-eq0-clause-lent : goal.returns-then-bits-eq0-clause-lent
returns-then-bits-eq0-clause-lent g c =
    lost_lent (g.R.Registers.view c.args.registers.now) (g.R.Registers.view c.begin.new.registers)
    (g.R.Registers.view c.wait-bits.new.registers) (g.R.Registers.view c.reset_command.new.registers)
    (g.R.Registers.view c.reset_data.new.registers) c.args.command c.args.mover c.wait-bits.result c.fault_in.result
    (elim c.then-bits-eq0.branch [
      | then-bits-eq0-via-then-bits-eq0 w ↦ inl (omega (arith, w.if-bits-eq0))
      | then-bits-eq0-via-else-bits-eq0+then-bits-ne0 w ↦ inr w.if-bits-ne0.true
    ])
    c.begin.ensures c.wait-bits.ensures.ends c.reset_command.ensures c.reset_data.ensures

pub returns-then-not-has_data-clause-rest : goal.returns-then-not-has_data-clause-rest
returns-then-not-has_data-clause-rest g c by =
    heard_rests (g.R.Registers.view c.args.registers.now) (g.R.Registers.view c.begin.new.registers)
    (g.R.Registers.view c.wait-bits.new.registers) (g.R.Registers.view c.hear-heard.new.registers) c.args.under_way c.args.command
    c.args.mover c.wait-bits.result c.hear-heard.result (λ h. omega (arith, h, c.if-bits-eq0.false))
    (omega (arith, c.if-bits-ne0.false)) c.requires.rest c.requires.under_way (sym c.has_data.ensures ∙ c.if-not-has_data.true)
    c.begin.ensures c.wait-bits.ensures.ends c.hear-heard.ensures.tells by

pub returns-then-not-has_data-clause-moves : goal.returns-then-not-has_data-clause-moves
returns-then-not-has_data-clause-moves g c =
    heard_moves (g.R.Registers.view c.args.registers.now) (g.R.Registers.view c.begin.new.registers)
    (g.R.Registers.view c.wait-bits.new.registers) (g.R.Registers.view c.hear-heard.new.registers) c.args.under_way c.args.command
    c.args.mover c.wait-bits.result c.hear-heard.result (λ h. omega (arith, h, c.if-bits-eq0.false))
    (omega (arith, c.if-bits-ne0.false)) c.requires.rest c.requires.under_way (sym c.has_data.ensures ∙ c.if-not-has_data.true)
    c.begin.ensures c.wait-bits.ensures.ends c.hear-heard.ensures.tells

pub returns-then-not-has_data-clause-lent : goal.returns-then-not-has_data-clause-lent
returns-then-not-has_data-clause-lent g c =
    heard_lent (g.R.Registers.view c.args.registers.now) (g.R.Registers.view c.begin.new.registers)
    (g.R.Registers.view c.wait-bits.new.registers) (g.R.Registers.view c.hear-heard.new.registers) c.args.command
    c.args.mover c.wait-bits.result c.hear-heard.result (λ h. omega (arith, h, c.if-bits-eq0.false))
    (omega (arith, c.if-bits-ne0.false)) c.begin.ensures c.wait-bits.ensures.ends c.hear-heard.ensures.tells

pub returns-clause-rest : goal.returns-clause-rest
returns-clause-rest g c by =
    (dropped_rests (g.R.Registers.view c.args.registers.now) (g.R.Registers.view c.begin.new.registers)
    (g.R.Registers.view c.wait-bits.new.registers) (g.R.Registers.view c.hear-heard.new.registers)
    (g.R.Registers.view c.reset_data-2.new.registers) c.args.under_way c.args.command c.args.mover c.wait-bits.result
    c.hear-heard.result (λ h. omega (arith, h, c.if-bits-eq0.false)) (omega (arith, c.if-bits-ne0.false))
    (sym c.has_data.ensures ∙ c.if-not-has_data.false) c.requires.rest c.requires.free c.begin.ensures c.wait-bits.ensures.ends
    c.hear-heard.ensures.tells c.reset_data-2.ensures).0

pub returns-clause-moves : goal.returns-clause-moves
returns-clause-moves g c =
    (dropped_rests (g.R.Registers.view c.args.registers.now) (g.R.Registers.view c.begin.new.registers)
    (g.R.Registers.view c.wait-bits.new.registers) (g.R.Registers.view c.hear-heard.new.registers)
    (g.R.Registers.view c.reset_data-2.new.registers) c.args.under_way c.args.command c.args.mover c.wait-bits.result
    c.hear-heard.result (λ h. omega (arith, h, c.if-bits-eq0.false)) (omega (arith, c.if-bits-ne0.false))
    (sym c.has_data.ensures ∙ c.if-not-has_data.false) c.requires.rest c.requires.free c.begin.ensures c.wait-bits.ensures.ends
    c.hear-heard.ensures.tells c.reset_data-2.ensures).1

pub returns-clause-lent : goal.returns-clause-lent
returns-clause-lent g c =
    dropped_lent (g.R.Registers.view c.args.registers.now) (g.R.Registers.view c.begin.new.registers)
    (g.R.Registers.view c.wait-bits.new.registers) (g.R.Registers.view c.hear-heard.new.registers)
    (g.R.Registers.view c.reset_data-2.new.registers) c.args.under_way c.args.command c.args.mover c.wait-bits.result
    c.hear-heard.result (λ h. omega (arith, h, c.if-bits-eq0.false)) (omega (arith, c.if-bits-ne0.false))
    (sym c.has_data.ensures ∙ c.if-not-has_data.false) c.requires.under_way c.requires.mover c.requires.free c.begin.ensures
    c.wait-bits.ensures.ends c.hear-heard.ensures.tells c.reset_data-2.ensures
