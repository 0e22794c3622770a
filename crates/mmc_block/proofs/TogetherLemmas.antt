-- Requests that are served together by one change of the card.
use Rattle.std.proofs.Common.{append-nil}
use Rattle.std.proofs.Common.{◌++◌, ◌+◌, ◌-◌, ◌<◌, ◌∙◌, ◌∷◌, ◌≡◌, ◌≤◌, List, [], ap, arith, false, inr, length, map, refl, subst, sym, ℕ}
use Rattle.std.specs.Prelude.{slice_index_or}
use Rattle.mmc_card.specs.Sectors.{AreRead, Sets, Within, pieces}
use Rattle.mmc_queue.specs.Group.{FormExtent, IsOneOf}
use Rattle.mmc_queue.specs.Lent.{blocks_of}
use Rattle.mmc_queue.specs.Requests.{count_of, start_of}
use Rattle.mmc_queue.specs.declared.entry.Entry.{Entry}
use Rattle.mmc_queue.specs.declared.group.Group.{Group}
use Rattle.mmc_requests.specs.declared.kind.Kind.{Kind}
use Rattle.mmc_requests.specs.declared.kind.Kind.TheVariants as to
use Rattle.mmc_switch.specs.declared.info.Info.{Info}
use Rattle.mmc_block.specs.Entries.{AreServable, HoldWhatTheyRead, completion_of, waiting_of, waits_of}
use Rattle.mmc_block.specs.Groups.{AreAnswersOf, AreInOrder, AreOneKind}
use Rattle.mmc_block.specs.Machine.{Machine, StartsIfIdle, Waiting, all_failed}
use Rattle.mmc_block.specs.Service.{AreServed}
use Rattle.mmc_block.specs.Together.{AreServedNow, EndsTogether, FailsAlone, FailsTogether, StartsTogether}
use Rattle.mmc_block.proofs.ComesLemmas.{all_answers}
use Rattle.mmc_block.proofs.EntryLemmas.{length-waits_of, merged_waits, one_kind_by, waits_pass}
use Rattle.mmc_block.proofs.GroupLemmas.{still_within}
use Rattle.mmc_block.proofs.ServeLemmas.{group_answered, refuses}
use Rattle.mmc_block.proofs.ServiceLemmas.{merged_in_order, pass_first}
use Rattle.mmc_block.proofs.StepLemmas.{others_hold, reads_hold}

-- What is in service stays so at a turn.

none_served : (members others : List Waiting) → 0 < length members → members ++ others ≡ [] → ⊥
none_served [] others some none = omega (arith, some)
none_served (w ∷ ws) others some none = cc

goes_on : (machine : Machine) (members others : List Waiting) → AreServedNow machine members others → StartsIfIdle machine machine
goes_on machine members others now =
    inr (refl, λ idle. absurd (none_served members others now.some (sym now.in_service ∙ idle)))

within_served : (info : Info) (machine : Machine) (ws : List Waiting) (old : Sets) → machine.in_service ≡ ws
    → Within old (all_failed info machine.in_service machine.sets) → Within old (all_failed info ws machine.sets)
within_served info machine ws old is within =
    subst (λ (vs : List Waiting). Within old (all_failed info vs machine.sets)) is within

-- what members have read, whatever they are
hold_by : (group : Group) (kind : Kind) (sets : Sets) → group.extent.kind ≡ kind → FormExtent group.members.items group.extent
    → (group.extent.kind ≡ to.Read → length (blocks_of group) ≡ group.extent.end - group.extent.start)
    → ((e : Entry) (i : ℕ) → group.extent.kind ≡ to.Read → IsOneOf group.members.items e → i < count_of e.request
    → slice_index_or (blocks_of group) (start_of e.request + i - group.extent.start) []
    ≡ slice_index_or (pieces (count_of e.request) e.buffer) i [])
    → (group.extent.kind ≡ to.Read → AreRead sets group.extent.part group.extent.start (blocks_of group))
    → HoldWhatTheyRead sets group.members.items
hold_by group to.Read sets is forms lends own read = reads_hold group forms lends own sets is (read is)
hold_by group to.Write sets is forms lends own read = others_hold group forms lends own sets (λ reads. let e = sym is ∙ reads in cc)
hold_by group to.Erase sets is forms lends own read = others_hold group forms lends own sets (λ reads. let e = sym is ∙ reads in cc)
hold_by group to.Trim sets is forms lends own read = others_hold group forms lends own sets (λ reads. let e = sym is ∙ reads in cc)

pub answers_together : (info : Info) (sets : Sets) (group : Group) → AreServable info group.members.items
    → FormExtent group.members.items group.extent
    → (group.extent.kind ≡ to.Read → length (blocks_of group) ≡ group.extent.end - group.extent.start)
    → ((e : Entry) (i : ℕ) → group.extent.kind ≡ to.Read → IsOneOf group.members.items e → i < count_of e.request
    → slice_index_or (blocks_of group) (start_of e.request + i - group.extent.start) []
    ≡ slice_index_or (pieces (count_of e.request) e.buffer) i [])
    → (group.extent.kind ≡ to.Read → AreRead sets group.extent.part group.extent.start (blocks_of group))
    → AreAnswersOf sets (waits_of group.members.items) (map completion_of group.members.items)
answers_together info sets group able forms lends own read =
    all_answers info sets group.members.items able (hold_by group group.extent.kind sets refl forms lends own read)

pub ends_together : EndsTogether
ends_together info machine members others change completions old now served is_change answers within changed decided =
    let turned =
    group_answered info 0 machine.next machine false (λ ticket. 0) members others change completions old now served.in_service
    served.served.one_kind served.served.in_order (pass_first members others machine.waits served.served.passes_none) answers is_change
    (within_served info machine (members ++ others) old served.in_service within) changed decided in
    record {
      sets = turned.sets;
      turns = record { started = machine; start = goes_on machine members others served; answers = turned.answers };
      within = turned.within;
    }

pub fails_together : FailsTogether
fails_together info machine members others change old now served is_change within changed =
    subst (λ (vs : List Waiting). Within now (all_failed info vs machine.sets)) (sym served.in_service)
    (still_within info change members others old now machine.sets is_change changed
    (within_served info machine (members ++ others) old served.in_service within))

pub fails_alone : FailsAlone
fails_alone info machine request others cause now served within =
    let turned =
    refuses info 0 machine.next machine false (λ ticket. 0) request others cause now served.in_service served.served.in_order
    served.served.passes_none.0 (λ profile. cc)
    (within_served info machine (request ∷ others) now served.in_service within) in
    record {
      sets = turned.sets;
      turns = record { started = machine; start = goes_on machine (request ∷ []) others served; answers = turned.answers };
      within = turned.within;
    }

-- And a group goes into service by a start.

pub starts_together : StartsTogether
starts_together machine waits members left extent idle waits_are in_order fair =
    let joined = fair.joined in
    let first : waits_of members ≡ waiting_of fair.oldest ∷ waits_of fair.others = ap waits_of fair.members_are in
    let kind : AreOneKind (waits_of members) = one_kind_by extent members joined.alike in
    let merged = merged_waits fair.later fair.others left fair.parts in
    let order : AreInOrder 0 (waiting_of fair.oldest ∷ waits_of fair.later) machine.next = rw fair.waits_are at in_order in
    let parts = merged_in_order (fair.oldest.ticket + 1) (waits_of fair.later) (waits_of fair.others) (waits_of left) machine.next
    merged order.1 in
    let all : waits_of members ++ [] ≡ waits_of members = append-nil (waits_of members) in
    let n = length-waits_of fair.others in
    let few : length (fair.oldest ∷ fair.others) ≤ 16 = rw fair.members_are at joined.few in
    let long = length-waits_of members in
    let some = joined.some in (
      record {
        oldest = waiting_of fair.oldest;
        others = waits_of fair.others;
        later = waits_of fair.later;
        idle = idle;
        group = first;
        alike = subst AreOneKind first kind;
        few = omega (arith, n, few);
        first = waits_are ∙ ap waits_of fair.waits_are;
        left = merged;
        sets = refl;
        next = refl;
      },
      record {
        some = omega (arith, long, some);
        in_service = sym all;
        served = subst (λ (ws : List Waiting). AreServed ws (waits_of left) machine.next) (sym all)
            (record {
              one_kind = kind;
              in_order = rw fair.members_are (order.0, parts.0);
              passes_none = waits_pass members left fair.pass_none;
            });
      },
    )
