use Rattle.std.proofs.Common.{refl}
use Rattle.std.specs.Prelude.{option_map}
use Rattle.cardtool.specs.Files.{AreRefused, Files}
use Rattle.cardtool.proofs.FilesLemmas.{bad_script, card_refused, has_card, has_events, image_unread, script_unread}
use Rattle.card_served.proofs.InputLemmas.{err_is}
use Rattle.cardtool.proofs.files.read_files.Goals as goal

pub returns-in_err-spec-clause-err : goal.returns-in_err-spec-clause-err
returns-in_err-spec-clause-err g c =
    let files : Files = record {
      card = g.C.Read.remaining c.args.card.now;
      script = g.S.Read.remaining c.args.script.now;
      image = option_map (λ i. g.I.Read.remaining i) c.args.image.now;
    } in
    err_is (AreRefused files) _ _ c.from_residual.ensures.1 (card_refused files _ c.in_err-spec.ensures.err)

pub returns-in_err-text-clause-err : goal.returns-in_err-text-clause-err
returns-in_err-text-clause-err g c =
    let files : Files = record {
      card = g.C.Read.remaining c.args.card.now;
      script = g.S.Read.remaining c.args.script.now;
      image = option_map (λ i. g.I.Read.remaining i) c.args.image.now;
    } in
    err_is (AreRefused files) _ _ c.from_residual-in_err-text.ensures.1
    (script_unread files _ (has_card files _ _ c.in_ok-spec.ensures.ok)
    c.in_err-text.ensures.err)

pub returns-in_err-script-clause-err : goal.returns-in_err-script-clause-err
returns-in_err-script-clause-err g c =
    let files : Files = record {
      card = g.C.Read.remaining c.args.card.now;
      script = g.S.Read.remaining c.args.script.now;
      image = option_map (λ i. g.I.Read.remaining i) c.args.image.now;
    } in
    err_is (AreRefused files) _ _ c.from_residual-in_err-script.ensures.1
    (bad_script files _ _ (has_card files _ _ c.in_ok-spec.ensures.ok)
    c.in_ok-text.ensures.ok (rw c.as_slice.ensures.value at c.in_err-script.ensures.err))

pub returns-in_err-image-clause-err : goal.returns-in_err-image-clause-err
returns-in_err-image-clause-err g c =
    let files : Files = record {
      card = g.C.Read.remaining c.args.card.now;
      script = g.S.Read.remaining c.args.script.now;
      image = option_map (λ i. g.I.Read.remaining i) c.args.image.now;
    } in
    let e = c.in_err-image.ensures in
    err_is (AreRefused files) _ _ c.from_residual-in_err-image.ensures.1
    (image_unread files _
    (has_card files _ _ c.in_ok-spec.ensures.ok)
    (has_events files _ _ c.in_ok-text.ensures.ok (rw c.as_slice.ensures.value at c.in_ok-script.ensures.ok))
    e.given e.err)

pub returns-clause-ok : goal.returns-clause-ok
returns-clause-ok g c = record {
  script_text = c.in_ok-text.text.items;
  bare = c.in_ok-spec.field-0.spec;
  card_is = c.in_ok-spec.ensures.ok;
  script_file = c.in_ok-text.ensures.ok;
  image_file = c.in_ok-image.ensures.ok;
  spec_is = refl;
  events_are = rw c.as_slice.ensures.value at c.in_ok-script.ensures.ok;
}
