-- A record notes how a card stands, and a card stands as it is noted.
use Rattle.std.proofs.Common.{◌&&◌, ◌≡◌, false, refl, subst, sym, true, ℕ}
use Rattle.std.proofs.lemmas.Bool.{cond_both, false≢true}
use Rattle.std.specs.Prelude.{Bool, Err, Ok, Result}
use Rattle.mmc_frame.specs.declared.kind.Kind.TheVariants.{Mmc}
use Rattle.mmc_frame.specs.Field.{field}
use Rattle.mmc_ext_csd.specs.ExtCsd.{partition_config}
use Rattle.mmc_card.specs.BusView.{BusView}
use Rattle.mmc_card.specs.Card.{Card, IsCard}
use Rattle.mmc_card.specs.Laws.{Stands as IsSetTo, setting_of}
use Rattle.mmc_card.specs.Made.{HasRegisters, Made}
use Rattle.mmc_card.specs.declared.exchange.Lines.{Lines}
use Rattle.mmc_direct.specs.Healing.{HasHealed}
use Rattle.mmc_direct.specs.Served.{AnswersBy, IfServed}
use Rattle.mmc_switch.specs.Stands.{StandsIn}
use Rattle.mmc_direct.specs.declared.refused.NotDone.{NotDone}
use Rattle.mmc_direct.specs.declared.refused.NotDone.TheVariants.{Failed, Refused as RefusedFor}
use Rattle.mmc_direct.specs.declared.served.Served.{Served}
use Rattle.mmc_switch.specs.declared.stands.Stands.{Stands}
use Rattle.mmc_host.specs.Hosts.{HostView, bus_over}
use Rattle.mmc_bus.specs.declared.wire.Wire.{Wire}
use Rattle.mmc_record.specs.Note.{IsNoteOf, given_up, what_is_left}
use Rattle.mmc_recovery.specs.declared.healed.Healed.{Healed}
use Rattle.mmc_record.specs.declared.record.CardRecord.{CardRecord}
use Rattle.mmc_switch.specs.Info.{IsKnown}
use Rattle.mmc_switch.specs.Place.{IsBroken, IsPartOf, IsReady, Knows, setting_in}
use Rattle.mmc_switch.specs.Stages.{IsAtRest}
use Rattle.mmc_switch.specs.declared.broken.Broken.{Broken}
use Rattle.mmc_switch.specs.declared.info.Info.{Info}
use Rattle.mmc_switch.specs.declared.session.Session.{Session}
use Rattle.mmc_direct.specs.Noted.{IsCounted, HasServed, IsNoted, IsNotedOf, Notes, bus_going_on, lines_in}

-- what a note says of a card whose registers have their checks
abbrev pub IfItsCard : Info → Stands → CardRecord → Type 0
IfItsCard info how note =
    (limits : Lines) → (made : Made) → HasRegisters made → IsKnown limits made info → IsNoteOf how note

pub ready_noted : (stands : Stands) (session : Session) (note : CardRecord) → stands ≡ Stands.Ready session
    → IfItsCard session.info (Stands.Ready session) note → Notes stands note
ready_noted stands session note is says view stood =
    let ready : IsReady session view = subst (λ s. StandsIn s view) is stood in record {
      how = Stands.Ready session;
      says = says view.limits view.card.made ready.is_card.registers ready.knows.info;
      stands = ready;
    }

gives_up : (broken : Broken) (view : BusView) → IsBroken broken view → IsBroken (given_up broken.session) view
gives_up broken view is_broken = record {
  is_card = is_broken.is_card;
  knows = record { info = is_broken.knows.info; partition_config = is_broken.knows.partition_config };
  stands = λ no. absurd (false≢true (sym no));
}

what_is_left_stands : (broken : Broken) (view : BusView) → IsBroken broken view → IsBroken (what_is_left broken) view
what_is_left_stands broken view is_broken =
    cond_both broken.must_reset (given_up broken.session) broken (λ left. IsBroken left view)
    (λ p. gives_up broken view is_broken) (λ p. is_broken)

pub broken_noted : (stands : Stands) (broken : Broken) (note : CardRecord) → stands ≡ Stands.Broken broken
    → IfItsCard broken.session.info (Stands.Broken (what_is_left broken)) note → Notes stands note
broken_noted stands broken note is says view stood =
    let is_broken : IsBroken broken view = subst (λ s. StandsIn s view) is stood in record {
      how = Stands.Broken (what_is_left broken);
      says = says view.limits view.card.made is_broken.is_card.registers is_broken.knows.info;
      stands = what_is_left_stands broken view is_broken;
    }

-- what was counted of a request that isn't refused
pub counted_by : (most : ℕ) (stands : Stands) (old : Healed) (answer : Result Unit NotDone) (left : Stands) (note : CardRecord)
    (new : Healed) → AnswersBy answer left → Notes left note → HasHealed most stands old left new
    → IfServed answer (IsCounted most stands old answer note new)
counted_by most stands old (Ok done) left note new fits notes h = record { left = left; fits = fits; notes = notes; healed = h }
counted_by most stands old (Err (RefusedFor why)) left note new fits notes h = tt
counted_by most stands old (Err (Failed cause)) left note new fits notes h =
    record { left = left; fits = fits; notes = notes; healed = h }

-- What a view says of a session lies in its card, its lines and its limits.

knows_too : (session : Session) (v w : BusView) → w.card ≡ v.card → w.limits ≡ v.limits → Knows session v
    → Knows session w
knows_too session v w card limits k = record {
  info = subst (λ l. IsKnown l w.card.made session.info) (sym limits)
      (subst (λ (c : Card). IsKnown v.limits c.made session.info) (sym card) k.info);
  partition_config = subst (λ (c : Card). c.made.kind ≡ Mmc
      → field 7 3 session.partition_config ≡ field 7 3 (partition_config c.made.ext_csd)) (sym card) k.partition_config;
}

pub stands_too : (stands : Stands) (v w : BusView) → w.card ≡ v.card → w.limits ≡ v.limits → w.lines ≡ lines_in stands
    → StandsIn stands v → StandsIn stands w
stands_too (Stands.Ready session) v w card limits lines ready = record {
  is_card = subst IsCard (sym card) ready.is_card;
  knows = knows_too session v w card limits ready.knows;
  set = record {
    rest = subst (IsAtRest false) (sym card) ready.set.rest;
    is_set = subst (λ (c : Card). setting_of c ≡ setting_in session.info c.part) (sym card) ready.set.is_set;
    on_lines = lines;
  };
  part = subst (λ (c : Card). IsPartOf session c.part) (sym card) ready.part;
}
stands_too (Stands.Broken broken) v w card limits lines is_broken = record {
  is_card = subst IsCard (sym card) is_broken.is_card;
  knows = knows_too broken.session v w card limits is_broken.knows;
  stands = λ no. let at = is_broken.stands no in record {
    part = at.part;
    is_part = at.is_part;
    stands = subst (IsSetTo (setting_in broken.session.info at.part)) (sym card) at.stands;
    lines = lines;
  };
}

-- A whole call.

pub and_left : (a b : Bool) → (a && b) ≡ true → a ≡ true
and_left true b p = refl
and_left false b p = absurd (false≢true p)

pub served_over : (Has : BusView → Served → BusView → Type 0) (stands : Stands) (old new begun : BusView) (served : Served)
    (note : CardRecord) → (new.is_kept ≡ true → begun.is_kept ≡ true) → (begun.is_kept ≡ true → begun ≡ old)
    → AnswersBy served.answer served.stands → Notes served.stands note
    → (new.is_kept ≡ true → StandsIn stands begun → Has begun served new)
    → HasServed (λ served. new.is_kept ≡ true → StandsIn stands old → Has old served new) served.answer note
served_over Has stands old new begun served note kept same fits notes has = record {
  served = served;
  answers = refl;
  fits = fits;
  notes = notes;
  has = λ k. subst (λ b. StandsIn stands b → Has b served new) (same (kept k)) (has k);
}

pub noted_of : (host : HostView) (wire : Wire) (misused : Bool) (note : CardRecord) → host.limits ≡ wire.limits
    → IsNoted note (bus_over host wire misused) → IsNotedOf note host
noted_of host wire misused note within n = record {
  how = n.how;
  says = n.says;
  stands = stands_too n.how (bus_over host wire misused) (bus_going_on host (lines_in n.how)) refl
      within refl n.stands;
}

-- the card of a host to which nothing was done stands as it did, and the record notes it again
pub noted_still : (stands : Stands) (host : HostView) (note : CardRecord) → Notes stands note
    → StandsIn stands (bus_going_on host (lines_in stands)) → IsNotedOf note host
noted_still stands host note notes at =
    let n = notes (bus_going_on host (lines_in stands)) at in
    record {
      how = n.how;
      says = n.says;
      stands = stands_too n.how (bus_going_on host (lines_in stands)) (bus_going_on host (lines_in n.how)) refl refl refl n.stands;
    }
