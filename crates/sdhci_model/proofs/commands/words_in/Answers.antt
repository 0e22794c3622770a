use Rattle.sdhci_model.proofs.Commanding.{register_shown}
use Rattle.sdhci_model.proofs.commands.words_in.Goals as goal

pub returns-in-R2-Register : goal.returns-in-R2-Register
returns-in-R2-Register c =
    register_shown c.words_showing.result c.args.response c.args.heard c.in-R2-Register.bytes c.in-R2-Register.is-0
    c.in-R2-Register.is-1 c.words_showing.ensures
