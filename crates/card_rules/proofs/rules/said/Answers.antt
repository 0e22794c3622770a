use Rattle.std.proofs.Common.{◌<◌, ◌≡◌, ◌≤◌, arith, false, get_or, length, subst, take_all}
use Rattle.std.proofs.lemmas.List.Elements.{All-more}
use Rattle.std.specs.List.{All}
use Rattle.mmc_card_sim.specs.declared.fault.Fault.TheVariants.{LoseCommand}
use Rattle.card_rules.specs.Chosen.{IsQuiet}
use Rattle.card_rules.specs.Rules.{is_about}
use Rattle.card_rules.specs.declared.rule.Rule.{Rule}
use Rattle.card_rules.specs.declared.rule.What.TheVariants.{This}
use Rattle.card_rules.specs.declared.rule.When.TheVariants.{At}
use Rattle.card_rules.proofs.rules.said.Goals as goal

pub loop-i-preserved : goal.loop-i-preserved
loop-i-preserved c =
    let default : Rule = record { when = At 0; what = This LoseCommand } in
    let less : c.loop-i.i < length c.args.rules.now = omega (arith, c.loop-i-test.true) in
    let quiet : is_about (get_or c.args.rules.now c.loop-i.i default).when c.args.number c.args.moment c.args.before
    c.next_u32-chance.result ≡ false = grind (arith, c.is_about.ensures, c.if-is_about.false) in
    All-more (IsQuiet c.args.number c.args.moment c.args.before) c.args.rules.now c.loop-i.i default less c.loop-i.invariant (c.next_u32-chance.result, quiet)

pub returns : goal.returns
returns c =
    let all : length c.args.rules.now ≤ c.loop-i.i = omega (arith, c.loop-i-test.false) in
    subst (All (IsQuiet c.args.number c.args.moment c.args.before)) (take_all c.loop-i.i c.args.rules.now all) c.loop-i.invariant
