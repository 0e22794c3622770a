use Rattle.std.proofs.Common.{refl, subst}
use Rattle.std.specs.Prelude.{IfOk, IsOk}
use Rattle.mmc_record.specs.Note.{IsNoteOf}
use Rattle.mmc_switch.specs.Place.{IsInitialized, IsReady}
use Rattle.mmc_switch.specs.declared.session.Session.{Session}
use Rattle.mmc_switch.specs.declared.stands.Stands.TheVariants as Stands
use Rattle.mmc_direct.proofs.opening.open.Goals as goal

pub returns-in-Ok-clause-moves : goal.returns-in-Ok-clause-moves
returns-in-Ok-clause-moves g c kept =
    let view = g.B.Bus.view c.initialize_in.new.bus in
    let session = c.in-Ok.session in
    let moved = c.initialize_in.ensures.moves kept in
    let is : IsInitialized session view = subst (λ r. IfOk r (λ session. IsInitialized session view)) c.in-Ok.is moved.own in
    let heeds = c.heeding_known_faults.ensures.heeds in
    let ready = c.heeding_known_faults.ensures.ready view is.ready in
    record {
      was_kept = moved.was_kept;
      was_card = moved.was_card;
      is_card = moved.is_card;
      stays = moved.stays;
      set = moved.set;
      sectors = moved.sectors;
      own = record {
        session = session;
        initialized = is;
        says = subst (λ (s : Session). IsNoteOf (Stands.Ready s) c.note.result) heeds
            (c.note.ensures.of_a_card view.limits view.card.made ready.is_card.registers ready.knows.info);
        ready = subst (λ (s : Session). IsReady s view) heeds ready;
      };
      fine = λ none profile. refl;
    }

pub returns-in-Err-clause-moves : goal.returns-in-Err-clause-moves
returns-in-Err-clause-moves g c kept =
    let moved = c.initialize_in.ensures.moves kept in
    record {
      was_kept = moved.was_kept;
      was_card = moved.was_card;
      is_card = moved.is_card;
      stays = moved.stays;
      set = moved.set;
      sectors = moved.sectors;
      own = tt;
      fine = λ none profile. subst (λ r. IsOk r) c.in-Err.is (moved.fine none profile);
    }
