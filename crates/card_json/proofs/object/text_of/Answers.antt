use Rattle.std.proofs.Common.{refl}
use Rattle.std.proofs.lemmas.Result.{IfOk-weaker}
use Rattle.serde_json.specs.Data.{no_members}
use Rattle.card_json.proofs.ObjectLemmas.{members_have_no_float}
use Rattle.card_json.proofs.object.text_of.Goals as goal

pub returns : goal.returns
returns c =
    let text = c.to_string.ensures.text in
    let said = rw c.in_ok-object.ensures at text in
    IfOk-weaker c.to_string.result _ _ (λ s is. is (members_have_no_float c.args.members.now no_members refl)) said
