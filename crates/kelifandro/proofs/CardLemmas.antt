-- What a card with its history keeps true, call by call.
use Rattle.std.proofs.Common.{◌∙◌, ◌≡◌, [], ◌∷◌, List, ap, refl, subst, sym}
use Rattle.std.proofs.lemmas.Bool.{false≢true}
use Rattle.mmc_block.specs.Alone.{idle}
use Rattle.mmc_card.specs.Card.{holds}
use Rattle.mmc_card.specs.declared.exchange.Lines.{Lines}
use Rattle.mmc_host.specs.Hosts.{HostView}
use Rattle.mmc_record.specs.declared.record.CardRecord.{CardRecord}
use Rattle.mmc_sdhci.specs.Driver.{IsNew}
use Rattle.c_host.specs.Given.{most_by}
use Rattle.c_host.specs.declared.given.WayRecord.{WayRecord}
use Rattle.kelifandro.specs.Done.{AtRegisters, Done, IsFit, IsTrueOf, OnlyTold, Stories, host_after, nothing_done}
use Rattle.kelifandro.specs.History.{AreServed, Call, CardHistory, GoesOn, HasServed, IsKept}
use Rattle.kelifandro.specs.History.Call.{Closed}
use Rattle.kelifandro.proofs.DoneLemmas.{fit_closed, limits_stay}
use Rattle.kelifandro.proofs.HistoryLemmas.{closed_more}
use Rattle.kelifandro.proofs.OpeningLemmas.{closed, stayed_told}

-- one call more, by what contracts saw before it
pub calls_seen : {was old : CardHistory} {calls : List Call} {call : Call} → was ≡ old → calls ≡ call ∷ was.calls
    → calls ≡ call ∷ old.calls
calls_seen {was} {old} {calls} {call} seen more = more ∙ ap (λ (h : CardHistory). call ∷ h.calls) seen

module _ (stories : Stories) (way : WayRecord) where
  abbrev pub Keeps : Done → CardRecord → List Call → Type 0
  Keeps did note calls =
      IsFit stories way did note
      × (IsTrueOf stories way did → IsKept (host_after stories way did) note × AreServed stories way did calls)

  abbrev after : Done → HostView
  after did = host_after stories way did

  begun : AreServed stories way nothing_done []
  begun = record {
    machine = idle (holds (after nothing_done).card) 0;
    executed = refl;
    contents = λ p s v i. i;
    answered = refl;
    carried = record { made = refl; sizes = λ p. refl };
  }

  pub begins : (did : Done) (note : CardRecord) (calls : List Call) → did ≡ nothing_done → calls ≡ [] → note.state ≡ 0
      → ((way.by ≡ 0 → ⊥) → stories.registers.built.wired ≡ most_by way) → Keeps did note calls
  begins did note calls nothing none zero wired = (
    fit_closed stories way did note (λ registers accesses is. wired registers)
        (subst (λ (d : Done). AtRegisters stories way d IsNew) (sym nothing) (λ registers. stories.registers.begins)) (closed note zero),
    λ is. (
      (λ noted. absurd (false≢true (sym (closed note zero) ∙ noted))),
      subst (λ (d : Done). AreServed stories way d calls) (sym nothing)
          (subst (λ (cs : List Call). AreServed stories way nothing_done cs) (sym none) begun),
    ),
  )

  pub continues : (did does : Done) (note new : CardRecord) (earlier calls : List Call) (call : Call) → Keeps did note earlier
      → IsFit stories way does new
      → (IsTrueOf stories way does → GoesOn call (after did) note (after does) new) → calls ≡ call ∷ earlier → Keeps does new calls
  continues did does note new earlier calls call keeps fit goes same = (
    fit,
    λ is.
        let on = goes is in
        let old = keeps.1 on.was_true in (
          on.kept old.0,
          subst (λ (cs : List Call). AreServed stories way does cs) (sym same) (on.served old.0 (after nothing_done).card earlier old.1),
        ),
  )

  pub closes : (did does : Done) (note new : CardRecord) (earlier calls : List Call) → Keeps did note earlier → new.state ≡ 0
      → OnlyTold (after did) (after does) → AtRegisters stories way does IsNew → calls ≡ Closed ∷ earlier → Keeps does new calls
  closes did does note new earlier calls keeps zero told still same = (
    fit_closed stories way does new keeps.0.wired still (closed new zero),
    λ is.
        let stays = stayed_told (after did) (after does) told is in (
          (λ noted. absurd (false≢true (sym (closed new zero) ∙ noted))),
          subst (λ (cs : List Call). AreServed stories way does cs) (sym same)
              (closed_more (after does).limits (after nothing_done).card (after did).card (after does).card earlier stays.carried stays.narrows
              (subst (λ (l : Lines). HasServed l (after nothing_done).card (after did).card earlier) (sym (limits_stay stories way does did))
              (keeps.1 stays.was_true).1)),
        ),
  )
