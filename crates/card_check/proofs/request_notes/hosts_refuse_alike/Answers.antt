use Rattle.card_check.proofs.AlikeLemmas.{refused_alike}
use Rattle.card_check.proofs.request_notes.hosts_refuse_alike.Goals as goal

pub returns : goal.returns
returns c = refused_alike
