use Rattle.std.proofs.Common.{ap}
use Rattle.mmc_requests.specs.Kinds.{is_read}
use Rattle.kelifandro.proofs.RequestLemmas.{shows_none}
use Rattle.kelifandro.proofs.request.CRequestRequest.run.Goals as goal

pub returns-in-Write-clause-has : goal.returns-in-Write-clause-has
returns-in-Write-clause-has g c kept ready =
    shows_none c.write.result (is_read c.args.self.now.kind) _ (ap is_read c.in-Write.is)

pub returns-in-Erase-clause-has : goal.returns-in-Erase-clause-has
returns-in-Erase-clause-has g c kept ready =
    shows_none c.erase.result (is_read c.args.self.now.kind) _ (ap is_read c.in-Erase.is)

pub returns-in-Trim-clause-has : goal.returns-in-Trim-clause-has
returns-in-Trim-clause-has g c kept ready =
    shows_none c.erase-in-Trim.result (is_read c.args.self.now.kind) _ (ap is_read c.in-Trim.is)
