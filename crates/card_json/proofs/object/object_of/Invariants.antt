use Rattle.std.proofs.Common.{drop, ◌≡◌}
use Rattle.serde_json.specs.Data.{no_members}
use Rattle.serde_json.specs.View.{members_view}
use Rattle.card_json.specs.Objects.{members_from, named}
use Rattle.card_json.proofs.object.object_of.Given as goal

abbrev pub invariant-loop-member : goal.invariant-loop-member
invariant-loop-member l =
    members_from no_members (named l.fn.members)
    ≡ members_from (members_view l.map.entries) (named (drop l.member-index l.fn.members))
