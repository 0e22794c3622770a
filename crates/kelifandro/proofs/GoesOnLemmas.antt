-- A request of C, with what its host did in it, is one call more of a history.
use Rattle.std.proofs.Common.{◌&&◌, ◌∙◌, ◌≡◌, [], Bool, List, ap, false, inl, inr, length, not, refl, subst, sym, true, ℕ, ℤ}
use Rattle.std.proofs.lemmas.Bool.{false≢true}
use Rattle.std.specs.Prelude.{Err, IfErr, IfOk, Ok, Result, is_err, is_some}
use Rattle.mmc_bus.specs.declared.wire.Wire.{Wire}
use Rattle.mmc_card.proofs.Narrow.{carried_then}
use Rattle.mmc_card.specs.BusView.{BusView}
use Rattle.mmc_card.specs.Card.{Card, IsCard, holds}
use Rattle.mmc_card.specs.Laws.{Carried}
use Rattle.mmc_card.specs.Laws.{Stands as IsSetTo}
use Rattle.mmc_card.specs.Made.{Made}
use Rattle.mmc_card.specs.Sectors.{AreRead, Change, Sector, Sets, Within}
use Rattle.mmc_card.specs.declared.exchange.Lines.{Lines}
use Rattle.mmc_block.specs.Alone.{ServesAlone}
use Rattle.mmc_block.specs.InOrder.{AreDecided}
use Rattle.mmc_direct.proofs.NotedLemmas.{noted_still, stands_too}
use Rattle.mmc_direct.specs.Noted.{IsNotedOf, IsServed, Notes, bus_going_on, lines_in}
use Rattle.mmc_direct.specs.Requests.{Serves}
use Rattle.mmc_direct.specs.Served.{AnswersBy, IfRefused, refusal_in}
use Rattle.mmc_requests.specs.declared.asked.Asked.{Asked}
use Rattle.mmc_direct.specs.declared.refused.NotDone.{NotDone}
use Rattle.mmc_direct.specs.declared.refused.NotDone.TheVariants.{Failed, Refused as RefusedFor}
use Rattle.mmc_host.specs.Hosts.{HostView, bus_over}
use Rattle.mmc_record.specs.Note.{IsNoteOf, is_note}
use Rattle.mmc_record.specs.declared.record.CardRecord.{CardRecord}
use Rattle.mmc_requests.specs.Changes.{TakesEffect, change_by}
use Rattle.mmc_requests.specs.Kinds.{is_read}
use Rattle.mmc_requests.specs.declared.refused.Refused.{Refused}
use Rattle.mmc_switch.specs.Info.{IsKnown}
use Rattle.mmc_switch.specs.Place.{Knows, setting_in}
use Rattle.mmc_switch.specs.Stands.{StandsIn, info_of}
use Rattle.mmc_switch.specs.declared.info.Info.{Info}
use Rattle.mmc_switch.specs.declared.stands.Stands.{Stands}
use Rattle.mmc_switch.specs.declared.stands.Stands.TheVariants as Stand
use Rattle.kelifandro.specs.Answers.{answer_number}
use Rattle.kelifandro.specs.Calls.{is_attempted}
use Rattle.kelifandro.specs.Done.{IsLeft, OnlyTold}
use Rattle.kelifandro.specs.History.{Call, GoesOn, HasLeft, HasServed, IsKept, Told}
use Rattle.kelifandro.specs.History.Call.{Served}
use Rattle.kelifandro.proofs.CallLemmas.{refused_only, refused_unmade}
use Rattle.kelifandro.proofs.HistoryLemmas.{AreSectors, leaves_by, none_more, one_more}

-- what is known of a card that stands so is what its registers say
pub known_of : (stands : Stands) (view : BusView) → StandsIn stands view → IsKnown view.limits view.card.made (info_of stands)
known_of (Stand.Ready session) view at = at.knows.info
known_of (Stand.Broken broken) view at = at.knows.info

-- a card that a request has left ready is decided
decided_by : ((card : Card) → card.values ≡ [] → AreDecided (holds card)) → (answer : Result Unit NotDone) (stands : Stands)
    (view : BusView) → AnswersBy answer stands → StandsIn stands view → IfOk answer (λ _. AreDecided (holds view.card))
decided_by law (Ok done) (Stand.Ready session) view fits at = law view.card at.set.rest.finished
decided_by law (Ok done) (Stand.Broken broken) view fits at = absurd fits
decided_by law (Err (RefusedFor why)) stands view fits at = tt
decided_by law (Err (Failed cause)) stands view fits at = tt

refused_unmade_by : (answer : Result Unit NotDone) → is_some (refusal_in answer) ≡ true → is_attempted (answer_number answer) ≡ false
refused_unmade_by (Ok done) some = absurd (false≢true some)
refused_unmade_by (Err (RefusedFor why)) some = refused_unmade why
refused_unmade_by (Err (Failed cause)) some = absurd (false≢true some)

ok_then : {P Q : Type 0} (answer : Result Unit NotDone) → (P → Q) → IfOk answer (λ _. P) → IfOk answer (λ _. Q)
ok_then (Ok done) then holds = then holds
ok_then (Err other) then holds = tt

pub both : (a b : Bool) → a ≡ true → b ≡ false → (a && not b) ≡ true
both a b p q = rw p (rw q refl)

-- what a request promises of the card that it has left holds of the same card
same_done : {left now : Card} (answer : Result Unit NotDone) → (answer ≡ Ok tt → now ≡ left) → (Holds : Card → Type 0)
    → IfOk answer (λ _. Holds left) → IfOk answer (λ _. Holds now)
same_done (Ok done) same Holds holds = subst Holds (sym (same refl)) holds
same_done (Err other) same Holds holds = tt

-- a card that a request has left stands so after the end of the call too
left_stands : (answer : Result Unit NotDone) (stands : Stands) (left now : HostView) (end : BusView)
    → ((why : Refused) → answer ≡ Err (RefusedFor why) → ⊥) → AnswersBy answer stands → IsLeft (answer ≡ Ok tt) left now
    → end.card ≡ left.card → now.limits ≡ end.limits → StandsIn stands end → StandsIn stands (bus_going_on now (lines_in stands))
left_stands (Ok done) stands left now end unrefused fits l over limits at =
    stands_too stands end (bus_going_on now (lines_in stands)) (l.same refl ∙ sym over) limits refl at
left_stands (Err (RefusedFor why)) stands left now end unrefused fits l over limits at = absurd (unrefused why refl)
left_stands (Err (Failed cause)) (Stand.Ready session) left now end unrefused fits l over limits at = absurd fits
left_stands (Err (Failed cause)) (Stand.Broken broken) left now end unrefused fits l over limits at =
    let made : now.card.made ≡ end.card.made = l.carried.made ∙ ap (λ (c : Card). c.made) (sym over) in
    let knows = subst (λ (m : Made). Knows broken.session (record end { card = record end.card { made = m } })) (sym made) at.knows in
    record {
      is_card = l.is_card (subst IsCard over at.is_card);
      knows = record {
        info = subst (λ (ls : Lines). IsKnown ls now.card.made broken.session.info) (sym limits) knows.info;
        partition_config = knows.partition_config;
      };
      stands = λ may. let a = at.stands may in record {
        part = a.part;
        is_part = a.is_part;
        stands = l.stands (setting_in broken.session.info a.part)
            (subst (λ (c : Card). IsSetTo (setting_in broken.session.info a.part) c) over a.stands);
        lines = refl;
      };
    }

-- what a record notes of the card of a host it notes where nothing is new but what the host was told
pub noted_as : (note : CardRecord) (old new : HostView) → OnlyTold old new → new.is_kept ≡ true → IsKept old note → IsKept new note
noted_as note old new told kept at noted =
    let n = at noted in
    subst (λ (h : HostView). IsNotedOf note h) (sym (told kept).1) (record { how = n.how; says = n.says; stands = n.stands })

-- the same call, of which memory and number are told by other names
pub told_as : {asked : Asked} {before after memory : List Sector} {number other : ℤ} {old now : HostView} {note new : CardRecord}
    → memory ≡ after → other ≡ number
    → GoesOn (Served (record { asked = asked; before = before; after = memory; number = other })) old note now new
    → GoesOn (Served (record { asked = asked; before = before; after = after; number = number })) old note now new
told_as {asked} {before} {after} {memory} {number} {other} {old} {now} {note} {new} same number_is goes =
    subst (λ (n : ℤ). GoesOn (Served (record { asked = asked; before = before; after = after; number = n })) old note now new) number_is
    (subst (λ (m : List Sector). GoesOn (Served (record { asked = asked; before = before; after = m; number = other })) old note now new)
    same goes)

module _ (asked : Asked) (before after : List Sector) (were : AreSectors before) (are : AreSectors after)
    (long : length after ≡ length before) (was now : HostView) (note new : CardRecord) (same : now.limits ≡ was.limits) where
  abbrev told_by : ℤ → Told
  told_by number = record { asked = asked; before = before; after = after; number = number }

  same_limits : (start : Card) (earlier : List Call) → HasServed was.limits start was.card earlier
      → HasServed now.limits start was.card earlier
  same_limits start earlier h = subst (λ (l : Lines). HasServed l start was.card earlier) (sym same) h

  -- nothing was done
  untouched : (number : ℤ) → is_attempted number ≡ false → after ≡ before → was.is_kept ≡ true → Carried was.card now.card
      → Within (holds now.card) (holds was.card) → (IsKept was note → IsKept now new)
      → GoesOn (Served (told_by number)) was note now new
  untouched number unmade memory was_true carried narrows kept = record {
    was_true = was_true;
    kept = kept;
    left = λ at. inl (record { number = unmade; memory = memory; narrows = narrows });
    served = λ at start earlier h.
        none_more now.limits start was.card now.card earlier (told_by number) unmade memory carried narrows (same_limits start earlier h);
  }

  -- a request was served over a bus, to its end
  module _ (attempts : ℕ) (law : ServesAlone) (rests : (card : Card) → card.values ≡ [] → AreDecided (holds card)) (answer : Result Unit NotDone)
      (unrefused : (why : Refused) → answer ≡ Err (RefusedFor why) → ⊥) (left : HostView) (wire : Wire) (misused : Bool)
      (Has : Sets → Type 0) (has : (sets : Sets) → Has sets → is_read asked.kind ≡ true → AreRead sets asked.part asked.start after) where
    abbrev end : BusView
    end = bus_over left wire misused

    abbrev change : Info → Change
    change info = change_by asked.kind info asked.part asked.start asked.count before

    over_the_bus : misused ≡ false → IsLeft (answer ≡ Ok tt) left now → is_note note ≡ true
        → (end.is_kept ≡ true → was.is_kept ≡ true)
        → ((how : Stands) → IsNoteOf how note → IsServed (Serves attempts (change (info_of how)) Has) how was answer new end)
        → GoesOn (Served (told_by (answer_number answer))) was note now new
    over_the_bus unmisused l open_card was_kept serves =
        let kept : end.is_kept ≡ true = both left.is_kept misused l.was_kept unmisused in
        let leaves : IsKept was note → HasLeft now.limits was.card now.card (told_by (answer_number answer)) =
        λ at.
        let old = at open_card in
        let s = serves old.how old.says in
        let made = s.has kept old.stands in
        let by =
        leaves_by (info_of old.how) asked.part asked.start asked.count before after were are long
        (holds was.card) (holds now.card) asked.kind answer unrefused
        (λ p n v i. made.changed.within p n v (l.narrows p n v i))
        (same_done answer l.same (λ (c : Card). TakesEffect (change (info_of old.how)) (holds was.card) (holds c))
        (subst (λ a. IfOk a (λ _. TakesEffect (change (info_of old.how)) (holds was.card) (holds left.card))) s.answers made.changed.done))
        (same_done answer l.same (λ (c : Card). AreDecided (holds c))
        (subst (λ a. IfOk a (λ _. AreDecided (holds left.card))) s.answers
        (decided_by rests s.served.answer s.served.stands end s.fits made.changed.stands)))
        (ok_then answer (has (holds now.card)) (same_done answer l.same (λ (c : Card). Has (holds c))
        (subst (λ a. IfOk a (λ _. Has (holds left.card))) s.answers made.has))) in
        record {
          info = info_of old.how;
          known = subst (λ (ls : Lines). IsKnown ls was.card.made (info_of old.how)) (sym same)
              (known_of old.how (bus_going_on was (lines_in old.how)) old.stands);
          answer = by.0;
          tells = by.1;
          leaves = by.2;
        } in
        record {
          was_true = was_kept kept;
          kept = λ at noted.
              let old = at open_card in
              let s = serves old.how old.says in
              let changed = (s.has kept old.stands).changed in
              noted_still s.served.stands now new s.notes
              (left_stands answer s.served.stands left now end unrefused
              (subst (λ a. AnswersBy a s.served.stands) s.answers s.fits) l refl (same ∙ sym changed.stays.limits) changed.stands);
          left = λ at. inr (leaves at);
          served = λ at start earlier h.
              let old = at open_card in
              let s = serves old.how old.says in
              let made = s.has kept old.stands in
              let so = leaves at in
              one_more now.limits start was.card now.card earlier law (told_by (answer_number answer)) so.info so.answer so.known
              so.tells so.leaves (carried_then made.changed.stays.carried l.carried) (same_limits start earlier h);
        }

  -- whatever became of it
  module _ {B H : Type 0} (attempts : ℕ) (law : ServesAlone) (rests : (card : Card) → card.values ≡ [] → AreDecided (holds card))
      (left : B → HostView) (wire : B → Wire) (misused : B → Bool) (host : H → HostView) (Has : Sets → Type 0)
      (has : (sets : Sets) → Has sets → is_read asked.kind ≡ true → AreRead sets asked.part asked.start after) where
    abbrev view : B → BusView
    view bus = bus_over (left bus) (wire bus) (misused bus)

    abbrev Serving : Stands → Result Unit NotDone → B → Type 0
    Serving how answer bus =
        IsServed (Serves attempts (change_by asked.kind (info_of how) asked.part asked.start asked.count before) Has) how was answer new (view bus)

    by_left : (answer : Result Unit NotDone) (end : Result B H) → now.is_kept ≡ true → is_note note ≡ true
        → (is_attempted (answer_number answer) ≡ false → after ≡ before)
        → is_err end ≡ is_some (refusal_in answer)
        → IfErr end (λ h. now.is_kept ≡ true → IsLeft (Unit {0}) (host h) now)
        → IfErr end (λ h. OnlyTold was (host h))
        → IfOk end (λ bus. now.is_kept ≡ true → (misused bus ≡ false) × IsLeft (answer ≡ Ok tt) (left bus) now)
        → IfOk end (λ bus. (view bus).is_kept ≡ true → was.is_kept ≡ true)
        → ((how : Stands) → IsNoteOf how note → IfOk end (Serving how answer))
        → ((how : Stands) → IsNoteOf how note → IfRefused answer (Notes how new))
        → GoesOn (Served (told_by (answer_number answer))) was note now new
    by_left answer (Err h) is open_card unread refused refuses told ends was_kept serves notes =
        let l = refuses is in
        let t = told l.was_kept in
        let card : (host h).card ≡ was.card = ap (λ (v : HostView). v.card) t.1 in
        let unmade = refused_unmade_by answer (sym refused) in
        untouched (answer_number answer) unmade (unread unmade) t.0
        (subst (λ (c : Card). Carried c now.card) card l.carried)
        (subst (λ (c : Card). Within (holds now.card) (holds c)) card l.narrows) (λ at noted.
        let old = at open_card in
        noted_still old.how now new (refused_only answer (Notes old.how new) unmade (notes old.how old.says))
        (stands_too old.how (bus_going_on was (lines_in old.how)) (bus_going_on now (lines_in old.how)) (l.same tt ∙ card) same refl
        old.stands))
    by_left answer (Ok bus) is open_card unread refused refuses told ends was_kept serves notes =
        let e = ends is in
        over_the_bus attempts law rests answer (λ why e. false≢true (refused ∙ ap (λ a. is_some (refusal_in a)) e)) (left bus) (wire bus)
        (misused bus) Has has e.0 e.1 open_card was_kept serves

    pub goes_on : {A : Type 0} (answer : A → Result Unit NotDone) (end : A → Result B H) (called : Result A ℤ)
        (number : ℤ) → now.is_kept ≡ true
        → IfOk called (λ came. number ≡ answer_number (answer came)) → IfErr called (λ other. number ≡ other)
        → IfErr called (λ other. is_attempted other ≡ false) → IfErr called (λ other. OnlyTold was now)
        → IfErr called (λ other. new ≡ note)
        → (is_attempted number ≡ false → after ≡ before) → IfOk called (λ came. is_note note ≡ true)
        → IfOk called (λ came. is_err (end came) ≡ is_some (refusal_in (answer came)))
        → IfOk called (λ came. IfErr (end came) (λ h. now.is_kept ≡ true → IsLeft (Unit {0}) (host h) now))
        → IfOk called (λ came. IfErr (end came) (λ h. OnlyTold was (host h)))
        → IfOk called (λ came. IfOk (end came) (λ bus. now.is_kept ≡ true
        → (misused bus ≡ false) × IsLeft (answer came ≡ Ok tt) (left bus) now))
        → IfOk called (λ came. IfOk (end came) (λ bus. (view bus).is_kept ≡ true → was.is_kept ≡ true))
        → ((how : Stands) → IsNoteOf how note → IfOk called (λ came. IfOk (end came) (Serving how (answer came))))
        → ((how : Stands) → IsNoteOf how note → IfOk called (λ came. IfRefused (answer came) (Notes how new)))
        → GoesOn (Served (told_by number)) was note now new
    goes_on answer end (Err other) number is told why unmade stays same_note unread open_card refused refuses untold ends was_kept serves notes =
        let not = ap (λ (n : ℤ). is_attempted n) why ∙ unmade in
        let t = stays is in
        let card : now.card ≡ was.card = ap (λ (v : HostView). v.card) t.1 in
        untouched number not (unread not) t.0
        (subst (λ (c : Card). Carried was.card c) (sym card) (record { made = refl; sizes = λ p. refl }))
        (subst (λ (c : Card). Within (holds c) (holds was.card)) (sym card) (λ p n v i. i))
        (subst (λ (n : CardRecord). IsKept was note → IsKept now n) (sym same_note) (noted_as note was now stays is))
    goes_on answer end (Ok came) number is told why unmade stays same_note unread open_card refused refuses untold ends was_kept serves notes =
        subst (λ (n : ℤ). GoesOn (Served (told_by n)) was note now new) (sym told)
        (by_left (answer came) (end came) is open_card
        (subst (λ (n : ℤ). is_attempted n ≡ false → after ≡ before) told unread) refused refuses untold ends was_kept serves notes)
