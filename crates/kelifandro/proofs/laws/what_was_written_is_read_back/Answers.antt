use Rattle.kelifandro.proofs.ReadBackLemmas.{read_back}
use Rattle.kelifandro.proofs.laws.what_was_written_is_read_back.Goals as goal

pub returns : goal.returns
returns c = read_back
