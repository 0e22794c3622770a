use Rattle.std.proofs.Common.{◌∙◌, ◌≡◌, ap, rules, sym, to_z, w32, ℕ}
use Rattle.std.proofs.lemmas.Int.{to_z-of_z}
use Rattle.std.specs.Prelude.{ℤ}
use Rattle.mmc_record.specs.declared.record.CardRecord.{CardRecord}
use Rattle.kelifandro.specs.Answers.{is_unready, minus}
use Rattle.kelifandro.specs.Done.{done_of, host_after, stories_of}
use Rattle.kelifandro.proofs.DoneLemmas.{limits_stay}
use Rattle.kelifandro.proofs.OpeningLemmas.{not_zero, opened_goes_on, refused_both, refused_then, stayed_then, stayed_told}
use Rattle.kelifandro.proofs.opening.open_by.Goals as goal

pub returns-then-first-clause-opened : goal.returns-then-first-clause-opened
returns-then-first-clause-opened g c = λ is done.
    c.open_once-first.ensures.opened is (sym (to_z-of_z w32 c.open_once-first.result (search rules)) ∙ done)

pub returns-then-first-clause-goes_on : goal.returns-then-first-clause-goes_on
returns-then-first-clause-goes_on g c = λ is.
    let stories = stories_of g.S.HasStory.story g.S.HasRegisterStory.story in
    let first = c.open_once-first in
    let number = to_z-of_z w32 first.result (search rules) in
    opened_goes_on (host_after stories c.args.way.now (done_of c.args.did.now)) (host_after stories c.args.way.now (done_of first.new.did))
    c.args.card.now first.new.card _ (limits_stay stories c.args.way.now (done_of first.new.did) (done_of c.args.did.now))
    (first.ensures.stays is) (λ done. first.ensures.opened is (sym number ∙ done))
    (λ not. first.ensures.not_open (λ done. not (number ∙ done)))

pub returns-clause-no_host : goal.returns-clause-no_host
returns-clause-no_host g c = λ unready.
    let first = c.open_once-first in
    let one : first.result ≡ minus 20 =
    sym (to_z-of_z w32 first.result (search rules)) ∙ ap (λ (n : ℕ). to_z w32 n) c.if-first.false in
    let number = to_z-of_z w32 c.open_once.result (search rules) in
    c.open_once.ensures.no_host (ap (λ (n : ℤ). is_unready n) (sym number) ∙ unready)
    ∙ ap (λ (note : CardRecord). record note { state = 0 }) (first.ensures.no_card one)

pub returns-clause-stays : goal.returns-clause-stays
returns-clause-stays g c = λ is.
    let stories = stories_of g.S.HasStory.story g.S.HasRegisterStory.story in
    let then = c.open_once.ensures.stays is in
    let off = stayed_told _ (host_after stories c.args.way.now (done_of c.switch_off.new.did)) c.switch_off.ensures.stays then.was_true in
    stayed_then (stayed_then (c.open_once-first.ensures.stays off.was_true) off) then

pub returns-clause-opened : goal.returns-clause-opened
returns-clause-opened g c = λ is done.
    c.open_once.ensures.opened is (sym (to_z-of_z w32 c.open_once.result (search rules)) ∙ done)

pub returns-clause-refused : goal.returns-clause-refused
returns-clause-refused g c = λ is profile not ready.
    let stories = stories_of g.S.HasStory.story g.S.HasRegisterStory.story in
    let then = c.open_once in
    let stays = then.ensures.stays is in
    let off = stayed_told _ (host_after stories c.args.way.now (done_of c.switch_off.new.did)) c.switch_off.ensures.stays stays.was_true in
    let number = to_z-of_z w32 then.result (search rules) in
    refused_then (host_after stories c.args.way.now (done_of c.args.did.now))
    (host_after stories c.args.way.now (done_of c.switch_off.new.did)) (host_after stories c.args.way.now (done_of then.new.did))
    (stayed_then (c.open_once-first.ensures.stays off.was_true) off)
    (λ made. then.ensures.refused is made (λ done. not (number ∙ done)) (ap (λ (n : ℤ). is_unready n) (sym number) ∙ ready)) profile

pub returns-clause-goes_on : goal.returns-clause-goes_on
returns-clause-goes_on g c = λ is.
    let stories = stories_of g.S.HasStory.story g.S.HasRegisterStory.story in
    let then = c.open_once in
    let stays = then.ensures.stays is in
    let off = stayed_told _ (host_after stories c.args.way.now (done_of c.switch_off.new.did)) c.switch_off.ensures.stays stays.was_true in
    let number = to_z-of_z w32 then.result (search rules) in
    opened_goes_on (host_after stories c.args.way.now (done_of c.args.did.now)) (host_after stories c.args.way.now (done_of then.new.did))
    c.args.card.now then.new.card _ (limits_stay stories c.args.way.now (done_of then.new.did) (done_of c.args.did.now))
    (stayed_then (stayed_then (c.open_once-first.ensures.stays off.was_true) off) stays)
    (λ done. then.ensures.opened is (sym number ∙ done)) (λ not. then.ensures.not_open (λ done. not (number ∙ done)))

pub returns-clause-again : goal.returns-clause-again
returns-clause-again g c = λ is profile switches none.
    let stories = stories_of g.S.HasStory.story g.S.HasRegisterStory.story in
    let first = c.open_once-first in
    let then = c.open_once in
    let one : first.result ≡ minus 20 =
    sym (to_z-of_z w32 first.result (search rules)) ∙ ap (λ (n : ℕ). to_z w32 n) c.if-first.false in
    let two : then.result ≡ minus 20 = sym (to_z-of_z w32 then.result (search rules)) ∙ none in
    let stays = then.ensures.stays is in
    let off = stayed_told _ (host_after stories c.args.way.now (done_of c.switch_off.new.did)) c.switch_off.ensures.stays stays.was_true in
    refused_both (host_after stories c.args.way.now (done_of c.args.did.now)) (host_after stories c.args.way.now (done_of first.new.did))
    (host_after stories c.args.way.now (done_of c.switch_off.new.did)) (host_after stories c.args.way.now (done_of then.new.did))
    (first.ensures.stays off.was_true)
    (first.ensures.refused off.was_true profile (λ done. not_zero 19 (sym one ∙ done)) (ap (λ (n : ℤ). is_unready n) one)) off
    (λ made. then.ensures.refused is made (λ done. not_zero 19 (sym two ∙ done)) (ap (λ (n : ℤ). is_unready n) two)) profile
