use Rattle.mmc_card.specs.Rows.{found, row}
use Rattle.mmc_card_rows.proofs.ChipLemmas.{carried_out, hindered_by}
use Rattle.mmc_card_rows.specs.Chip.{card_of, command_choice}
use Rattle.mmc_card_rows.proofs.chip.Chip.obey.Goals as goal

pub returns-then-found-eq0 : goal.returns-then-found-eq0
returns-then-found-eq0 c =
    let card = card_of c.args.self.now in
    let choice = command_choice c.args.delays card in
    carried_out c.found-found.result (found choice c.args.command) c.args.index card
    (row choice c.args.command card c.args.index c.args.argument) c.carry_out.new.self c.carry_out.result
    (c.found-found.ensures.found card) c.if-found-eq0.true c.carry_out.ensures

pub returns-else-found-eq0 : goal.returns-else-found-eq0
returns-else-found-eq0 c =
    let card = card_of c.args.self.now in
    let choice = command_choice c.args.delays card in
    hindered_by c.found-found.result (found choice c.args.command) c.args.index card
    (row choice c.args.command card c.args.index c.args.argument) c.hinder.new.self c.hinder.result
    (c.found-found.ensures.found card) c.if-found-eq0.false c.hinder.ensures
