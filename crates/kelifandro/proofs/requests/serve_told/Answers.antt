use Rattle.std.proofs.Common.{◌∙◌, ◌≡◌, ap, rules, subst, sym, true, w32, ℕ, ℤ}
use Rattle.std.proofs.lemmas.Int.{to_z-of_z}
use Rattle.mmc_direct.specs.Refusal.{refusal_of}
use Rattle.mmc_switch.specs.Stands.{info_of}
use Rattle.mmc_sdhci.specs.Driver.{IsReady}
use Rattle.kelifandro.specs.Answers.{is_unready, minus}
use Rattle.kelifandro.specs.Asked.{AreWhole, HasBlocks, asked_with, attempts_by}
use Rattle.mmc_card.specs.Sectors.{AreRead}
use Rattle.mmc_card.specs.declared.part.Part.{Part}
use Rattle.mmc_requests.specs.Kinds.{is_read}
use Rattle.kelifandro.specs.Calls.{TellsCounts, TellsWhy}
use Rattle.kelifandro.specs.Done.{IsFit, OnlyTold, TellsUnready, done_of, host_after, stories_of}
use Rattle.kelifandro.specs.declared.did.Did.{Did}
use Rattle.kelifandro.specs.declared.request.CRequest.{CRequest}
use Rattle.kelifandro.proofs.CallLemmas.{both_none, either_call, left_at, open_by, refused_at, tells_counts, tells_none, tells_unready, tells_why, where_none, where_refused}
use Rattle.kelifandro.proofs.DoneLemmas.{fit_ready, limits_stay}
use Rattle.kelifandro.proofs.GoesOnLemmas.{goes_on, told_as}
use Rattle.kelifandro.proofs.HistoryLemmas.{are_sectors}
use Rattle.kelifandro.proofs.requests.serve_told.Goals as goal

pub returns-clause-judged : goal.returns-clause-judged
returns-clause-judged g c = λ opened how says.
    let why = refusal_of (info_of how) (asked_with c.args.wanted.now.asked c.args.blocks.now) in
    let called = c.serve_by-called in
    subst (λ number. TellsWhy c.args.way.now.by why number) (sym (to_z-of_z w32 c.told.result (search rules)))
    (tells_why (λ did. did.answer) c.args.way.now.by why called.result c.told.result c.told.ensures.answer c.told.ensures.why
    called.ensures.fault (λ host. called.ensures.functions host opened how says) (called.ensures.judged how says))

pub returns-clause-unready : goal.returns-clause-unready
returns-clause-unready g c = λ opened how says.
    let called = c.serve_by-called in
    let stories = stories_of g.S.HasStory.story g.S.HasRegisterStory.story in
    subst (λ (number : ℤ). is_unready number ≡ true → TellsUnready stories (done_of c.told.new.did) number)
    (sym (to_z-of_z w32 c.told.result (search rules)))
    (tells_unready (λ came. came.answer) (λ (d : Did) (number : ℤ). TellsUnready stories (done_of d) number) called.result c.told.result
    called.new.did c.told.new.did c.told.ensures.answer c.told.ensures.why c.told.ensures.none (called.ensures.unready opened how says))

pub returns-clause-no_clock : goal.returns-clause-no_clock
returns-clause-no_clock g c = λ opened how says.
    let called = c.serve_by-called in
    subst (λ (number : ℤ). is_unready number ≡ true → number ≡ minus 23) (sym (to_z-of_z w32 c.told.result (search rules)))
    (tells_unready (λ came. came.answer) (λ (d : Did) (number : ℤ). number ≡ minus 23) called.result c.told.result
    called.new.did c.told.new.did c.told.ensures.answer c.told.ensures.why c.told.ensures.none (called.ensures.no_clock opened how says))

pub returns-clause-counted : goal.returns-clause-counted
returns-clause-counted g c = λ how says.
    let called = c.serve_by-called in
    let old = c.args.healed.now in
    let most = attempts_by c.args.wanted.now.attempts in
    subst (λ number. TellsCounts most how old number called.new.card called.new.healed)
    (sym (to_z-of_z w32 c.told.result (search rules)))
    (tells_counts (λ did. did.answer) most how old called.result c.told.result called.new.card called.new.healed c.told.ensures.answer
    c.told.ensures.why called.ensures.unmade (called.ensures.counted how says))

pub returns-clause-fit_again : goal.returns-clause-fit_again
returns-clause-fit_again g c =
    let stories = stories_of g.S.HasStory.story g.S.HasRegisterStory.story in
    let did = c.told.new.did in
    either_call c.serve_by-called.result (λ (d : Did). IsFit stories c.args.way.now (done_of d) c.serve_by-called.new.card)
    (IsReady (g.S.HasRegisterStory.story.controller did.accesses.past)) c.serve_by-called.new.did did c.serve_by-called.ensures.fit_again
    c.told.ensures.none c.told.ensures.ready
    (λ ready. fit_ready stories c.args.way.now (done_of did) c.serve_by-called.new.card c.requires.fit.wired (λ registers. ready))

pub returns-clause-goes_on : goal.returns-clause-goes_on
returns-clause-goes_on g c = λ is.
    let stories = stories_of g.S.HasStory.story g.S.HasRegisterStory.story in
    let way = c.args.way.now in
    let called = c.serve_by-called in
    let before = c.args.blocks.now in
    let memory = called.new.request.blocks.now in
    let after = c.seen-after.result in
    let same : memory ≡ after = search rules in
    let whole : AreWhole after = subst AreWhole (sym c.seen-after.ensures.same) c.seen-after.ensures.whole in
    told_as (same ∙ c.seen-after.ensures.same) (sym (to_z-of_z w32 c.told.result (search rules)))
    (goes_on c.args.wanted.now.asked before memory
    (are_sectors before c.seen-before.ensures.whole) (are_sectors memory (subst AreWhole (sym same) whole))
    called.ensures.leaves.length (host_after stories way (done_of c.args.did.now)) (host_after stories way (done_of c.told.new.did))
    c.args.card.now called.new.card (limits_stay stories way (done_of c.told.new.did) (done_of c.args.did.now))
    (attempts_by c.args.wanted.now.attempts) c.a_request_alone_is_a_submission_and_a_turn.ensures c.a_card_at_rest_is_decided.ensures
    _ (λ bus. bus.wire) (λ bus. bus.is_misused) _ (λ sets. HasBlocks sets called.new.request)
    (λ sets has reads. subst (λ (part : Part). AreRead sets part c.args.wanted.now.asked.start memory) called.ensures.leaves.part
    (subst (λ (start : ℕ). AreRead sets called.new.request.part start memory) called.ensures.leaves.start
    (has (ap is_read called.ensures.leaves.kind ∙ reads))))
    (λ came. came.answer) (λ came. came.left) called.result c.told.result is
    c.told.ensures.answer c.told.ensures.why called.ensures.unmade
    (both_none called.result (λ stays same. subst (λ (d : Did). OnlyTold (host_after stories way (done_of c.args.did.now))
    (host_after stories way (done_of d))) (sym same) stays) called.ensures.stays c.told.ensures.none)
    (where_none called.result (λ same. same.0) called.ensures.no_host)
    (tells_none (λ came. came.answer) called.result c.told.result (memory ≡ before) c.told.ensures.answer
    (where_none called.result (λ same. ap (λ (r : CRequest). r.blocks.now) same.1) called.ensures.no_host)
    (where_refused (λ came. came.answer) called.result (λ same. ap (λ (r : CRequest). r.blocks.now) same) called.ensures.untouched))
    (open_by way c.args.card.now (minus 1) called.result called.ensures.not_open)
    called.ensures.left (refused_at _ (λ came. came.left) called.result way c.told.ensures.refused) called.ensures.untold
    (left_at _ (λ came. came.left) called.result way c.told.ensures.left) called.ensures.was_true
    called.ensures.served called.ensures.noted)
