-- What a request does, from its attempts.
use Rattle.std.proofs.Common.{◌≡◌, [], List, inl, inr, refl, subst, sym, ℕ}
use Rattle.std.specs.Prelude.{Err, IfOk, Ok, Result}
use Rattle.mmc_bus.proofs.WorkLemmas.{stays_same}
use Rattle.mmc_card.proofs.SectorLemmas.{in_cond, old_maybe, untouched}
use Rattle.mmc_card.specs.BusView.{BusView}
use Rattle.mmc_card.specs.Card.{holds}
use Rattle.mmc_card.specs.Sectors.{AreRead, Change, Sector, Sets, Within, maybe_changed, touches, value_of}
use Rattle.mmc_card.specs.declared.part.Part.{Part}
use Rattle.mmc_switch.specs.declared.broken.Broken.{Broken}
use Rattle.mmc_switch.specs.declared.session.Session.{Session}
use Rattle.mmc_direct.specs.Attempts.{HasTried}
use Rattle.mmc_requests.specs.Changes.{written_at}
use Rattle.mmc_direct.specs.Requests.{HasRead, Serves}
use Rattle.mmc_direct.specs.Served.{answer_of}
use Rattle.mmc_requests.specs.declared.refused.Refused.{Refused}
use Rattle.mmc_switch.specs.Stands.{StandsIn, stands_of}
use Rattle.mmc_switch.specs.declared.stands.Stands.{Stands}
use Rattle.mmc_direct.specs.declared.refused.NotDone.TheVariants.{Refused as RefusedFor}
use Rattle.mmc_direct.specs.declared.served.Served.{Served}

served_as : (P : Served → Type 0) (served : Served) (result : Result Session Broken) → served.stands ≡ stands_of result
    → served.answer ≡ answer_of result → P (record { stands = stands_of result; answer = answer_of result }) → P served
served_as P served result stands answer p =
    subst (λ x. P (record { stands = served.stands; answer = x })) (sym answer)
    (subst (λ x. P (record { stands = x; answer = answer_of result })) (sym stands) p)

served_so : (attempts : ℕ) (change : Change) (Has : Sets → Type 0) (old : BusView) (result : Result Session Broken) (new : BusView)
    → HasTried attempts change old result new → IfOk result (λ session. Has (holds new.card))
    → Serves attempts change Has old (record { stands = stands_of result; answer = answer_of result }) new
served_so attempts change Has old (Ok session) new t has = record {
  changed = record { stays = t.stays; stands = t.stands; within = t.within; done = t.done; failed = λ profile. tt };
  has = has;
}
served_so attempts change Has old (Err broken) new t has = record {
  changed = record { stays = t.stays; stands = t.stands; within = t.within; done = tt; failed = λ profile. t.fell profile };
  has = tt;
}

-- so many attempts, of which the last one came to this
pub has_served : (attempts : ℕ) (change : Change) (Has : Sets → Type 0) (old : BusView) (served : Served) (result : Result Session Broken)
    (new : BusView) → served.stands ≡ stands_of result → served.answer ≡ answer_of result → HasTried attempts change old result new
    → IfOk result (λ session. Has (holds new.card)) → Serves attempts change Has old served new
has_served attempts change Has old served result new stands answer t has =
    served_as (λ s. Serves attempts change Has old s new) served result stands answer (served_so attempts change Has old result new t has)

-- one that was refused, whose card stays as it was
pub has_refused : (attempts : ℕ) (change : Change) (Has : Sets → Type 0) (view : BusView) (served : Served) (stands : Stands) (why : Refused)
    → served.stands ≡ stands → served.answer ≡ Err (RefusedFor why) → StandsIn stands view
    → Serves attempts change Has view served view
has_refused attempts change Has view served stands why left answer at =
    subst (λ a. Serves attempts change Has view (record { stands = served.stands; answer = a }) view) (sym answer)
    (subst (λ s. Serves attempts change Has view (record { stands = s; answer = Err (RefusedFor why) }) view) (sym left) (record {
      changed = record {
        stays = stays_same view view.lines;
        stands = at;
        within = λ part sector value h. old_maybe change (holds view.card) part sector value h;
        done = tt;
        failed = λ profile. tt;
      };
      has = tt;
    }))

-- a change of no sector is none
none_changed : (change : Change) (new old : Sets) → change.values ≡ [] → Within new (maybe_changed change old)
    → Within new old
none_changed change new old none within part sector value h =
    elim (in_cond (touches change part sector) (value_of change sector) (old part sector) value (within part sector value h)) [
      | inl t ↦ absurd (untouched change part sector none t.0)
      | inr k ↦ k
    ]

read_so : (attempts : ℕ) (part : Part) (start : ℕ) (blocks : List Sector) (old : BusView) (served : Served) (new : BusView)
    → Serves attempts (written_at part start []) (λ sets. AreRead sets part start blocks) old served new
    → HasRead attempts part start blocks old served new
read_so attempts part start blocks old served new s = record {
  stays = s.changed.stays;
  stands = s.changed.stands;
  narrows = none_changed (written_at part start []) (holds new.card) (holds old.card) refl s.changed.within;
  done = s.has;
  failed = s.changed.failed;
}

-- a read changes no sector, and has what is left in its blocks
pub has_read : (attempts : ℕ) (part left_part : Part) (start left_start : ℕ) (blocks left : List Sector) (old : BusView) (served : Served)
    (new : BusView) → left_part ≡ part → left_start ≡ start → left ≡ blocks
    → Serves attempts (written_at part start []) (λ sets. AreRead sets left_part left_start left) old served new
    → HasRead attempts part start blocks old served new
has_read attempts part left_part start left_start blocks left old served new same_part same_start same s =
    read_so attempts part start blocks old served new
    (subst (λ p. Serves attempts (written_at part start []) (λ sets. AreRead sets p start blocks) old served new) same_part
    (subst (λ n. Serves attempts (written_at part start []) (λ sets. AreRead sets left_part n blocks) old served new) same_start
    (subst (λ xs. Serves attempts (written_at part start []) (λ sets. AreRead sets left_part left_start xs) old served new) same s)))
