use Rattle.std.proofs.Common.{◌∙◌, ap, sym}
use Rattle.std.proofs.lemmas.List.{drop_all}
use Rattle.serde_json.proofs.Views.{view-Object}
use Rattle.serde_json.specs.Data.{object}
use Rattle.serde_json.specs.View.{members_view}
use Rattle.card_json.specs.Objects.{members_from, named}
use Rattle.card_json.proofs.object.object_of.Goals as goal

pub returns : goal.returns
unfolding members_from
returns c =
    let none = drop_all c.loop-member.member-index c.args.members.now c.loop-member-test.false in
    view-Object c.loop-member.map ∙ ap object (sym (c.loop-member.invariant
    ∙ ap (λ rest. members_from (members_view c.loop-member.map.entries) (named rest)) none))
