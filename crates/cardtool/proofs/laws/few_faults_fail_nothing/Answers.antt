use Rattle.cardtool.proofs.LawLemmas.{few_fail_none}
use Rattle.cardtool.proofs.laws.few_faults_fail_nothing.Goals as goal

pub returns-clause-answered : goal.returns-clause-answered
returns-clause-answered c = λ spec plan script trace old new status profile few served.
    few_fail_none spec plan script trace old new status profile few served
