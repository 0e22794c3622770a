use Rattle.std.proofs.Common.{◌∙◌, sym}
use Rattle.mmc_sdhci.proofs.CommandByDma.{all_moved, moves_after, none_moved, one_unmoved}
use Rattle.mmc_sdhci.proofs.sdhci.Sdhci.move_blocks.Goals as goal

pub returns-then-not-is_ok-clause-moves : goal.returns-then-not-is_ok-clause-moves
returns-then-not-is_ok-clause-moves g c = record {
  set = g.R.Registers.view c.prepare.new.registers;
  between = g.R.Registers.view c.send-heard.new.registers;
  prepared = (c.prepare.ensures.ready c.if-not-prepare.false);
  sent = c.send-heard.ensures.sent;
  lent = c.send-heard.ensures.lent;
  moves = none_moved (g.R.Registers.view c.send-heard.new.registers) c.send-heard.result c.args.count
      (sym c.is_ok-2.ensures ∙ c.if-not-is_ok.true);
}

pub finish-failed-requires-clause-moving : goal.finish-failed-requires-clause-moving
finish-failed-requires-clause-moving g c =
    moves_after (g.R.Registers.view c.args.self.now.registers) (g.R.Registers.view c.prepare.new.registers)
    (g.R.Registers.view c.send-heard.new.registers) c.args.command c.send-heard.result
    (sym c.is_ok-2.ensures ∙ c.if-not-is_ok.false) c.requires.serves (c.prepare.ensures.ready c.if-not-prepare.false) c.send-heard.ensures.sent
    c.send-heard.ensures.lent

pub returns-in-None-clause-moves : goal.returns-in-None-clause-moves
returns-in-None-clause-moves g c = record {
  set = g.R.Registers.view c.prepare.new.registers;
  between = g.R.Registers.view c.send-heard.new.registers;
  prepared = (c.prepare.ensures.ready c.if-not-prepare.false);
  sent = c.send-heard.ensures.sent;
  lent = c.send-heard.ensures.lent;
  moves = all_moved (g.R.Registers.view c.send-heard.new.registers) (g.R.Registers.view c.finish-failed.new.registers)
      c.send-heard.result c.args.count (sym c.is_ok-2.ensures ∙ c.if-not-is_ok.false) c.in-None.ensures.finishes;
}

pub returns-in-Some-clause-moves : goal.returns-in-Some-clause-moves
returns-in-Some-clause-moves g c = record {
  set = g.R.Registers.view c.prepare.new.registers;
  between = g.R.Registers.view c.send-heard.new.registers;
  prepared = (c.prepare.ensures.ready c.if-not-prepare.false);
  sent = c.send-heard.ensures.sent;
  lent = c.send-heard.ensures.lent;
  moves = one_unmoved (g.R.Registers.view c.send-heard.new.registers) (g.R.Registers.view c.finish-failed.new.registers)
      c.send-heard.result c.args.count c.in-Some.got (sym c.is_ok-2.ensures ∙ c.if-not-is_ok.false) c.in-Some.ensures.bad
      c.in-Some.ensures.finishes;
}
