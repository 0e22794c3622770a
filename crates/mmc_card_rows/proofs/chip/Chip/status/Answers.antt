use Rattle.std.proofs.Common.{arith}
use Rattle.mmc_card_rows.proofs.ChipLemmas.{command_errors_whole, errors_whole}
use Rattle.mmc_card_rows.proofs.chip.Chip.status.Goals as goal

pub returns : goal.returns
returns c =
    let command_errors = command_errors_whole _ c.args.self.now.known in
    let errors = errors_whole _ c.args.self.now.raised in
    let locked = c.bits_if.ensures.bits in
    let state = c.number_of.ensures in
    let ready = c.bits_if-2.ensures.bits in
    let switch_error = c.bits_if-3.ensures.bits in
    let app = c.bits_if-4.ensures.bits in
    omega (arith, command_errors, errors, locked, state, ready, switch_error, app)
