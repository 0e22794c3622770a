-- A card that is brought back in order where it stands.
use Rattle.std.proofs.Common.{◌∙◌, ◌≡◌, ap, inl, inr, refl, subst, sym, ℕ}
use Rattle.std.specs.Prelude.{Err, IsErr, IsOk, Result}
use Rattle.mmc_frame.specs.declared.card_state.State.TheVariants.{Tran}
use Rattle.mmc_frame.specs.declared.kind.Kind.{Kind}
use Rattle.mmc_card.specs.BusView.{BusView}
use Rattle.mmc_card.specs.Card.{Card, IsCard, NoAddress, is_selected}
use Rattle.mmc_card.specs.CardAnswer.{shown}
use Rattle.mmc_card.specs.CardLaws.{IsInOrder}
use Rattle.mmc_card.proofs.Passing.{beside_card, stands_in_time, unmoved_by_time}
use Rattle.mmc_card.specs.Faults.{Passes}
use Rattle.mmc_card.specs.Laws.{AfterSomeTime, Setting, setting_of}
use Rattle.mmc_card.specs.RowsErase.{forgotten}
use Rattle.mmc_bus.proofs.WorkLemmas.{joined, moved_as, moved_then, narrows_then, refuted}
use Rattle.mmc_bus.specs.Closings.{HasShown}
use Rattle.mmc_bus.specs.CommandLaws.{TellsStatus}
use Rattle.mmc_bus.specs.Work.{Anything, Moved, Narrows, Worked}
use Rattle.mmc_bus.specs.declared.cause.Cause.{Cause}
use Rattle.mmc_bus.specs.declared.cause.Cause.TheVariants.{Answer}
use Rattle.mmc_switch.proofs.UnderWayLemmas.{knows_then, quiet_by, ready_again, stands_then}
use Rattle.mmc_switch.specs.Place.{IsReady, Knows, StandsAs}
use Rattle.mmc_switch.specs.declared.info.Info.{Info}
use Rattle.mmc_switch.specs.declared.session.Session.{Session}
use Rattle.mmc_recovery.specs.Settled.{IsFreed, Restores}

-- Work of which nothing is said but that the card stays as it is set.
abbrev pub Stirs : BusView → BusView → Type 0
Stirs = Worked Narrows Anything Anything

pub stirs_then : {Own Fine More Easy : BusView → BusView → Type 0} (a b c : BusView) → Worked Narrows Own Fine a b
    → Worked Narrows More Easy b c → Stirs a c
stirs_then a b c p q = joined a b c p q (narrows_then a b c p.sectors q.sectors) tt (λ same. tt)

abbrev pub Restored : Info → Result Unit Cause → BusView → BusView → Type 0
Restored info r = Moved (Restores info r) Anything

-- Blocks of 512 bytes, and nothing is held.

abbrev pub SetsBlocks : Result Unit Cause → BusView → BusView → Type 0
SetsBlocks r =
    Moved (λ old new. IsOk r → AfterSomeTime old (λ card. (card.state ≡ Tran) × IsFreed card new.card))
    Anything

-- what a card is after it, but for the block length
freed : {X : Type 0} (f : Card → X) (old new : Card) → f (record (shown (forgotten old)) { block_length = 512 }) ≡ f (shown (forgotten old))
    → IsFreed old new → f new ≡ f (shown (forgotten old))
freed f old new same (inl e) = ap f e ∙ same
freed f old new same (inr e) = ap f e

-- one with blocks of 512 bytes is set as it was
freed_setting : (setting : Setting) (old new : Card) → record setting { block_length = 512 } ≡ setting → setting_of old ≡ setting
    → IsFreed old new → setting_of new ≡ setting
freed_setting setting old new blocks was (inl e) =
    ap setting_of e ∙ ap (λ (s : Setting). record s { block_length = 512 }) was ∙ blocks
freed_setting setting old new blocks was (inr e) = ap setting_of e ∙ was

abbrev pub Shows : {X : Type 0} → Result X Cause → BusView → BusView → Type 0
Shows r = Worked Narrows (λ old new. IsOk r → AfterSomeTime old (λ card. HasShown card new.card)) Anything

-- a status shows itself, whether it lags or not
pub has_shown : {told : ℕ} (old new : Card) → TellsStatus old told new → HasShown old new
has_shown old new (inl itself) = subst (HasShown old) (sym itself.1) refl
has_shown old new (inr after) = subst (HasShown old) (sym after.card) refl

-- a card in tran stands as it did
stands_with_blocks : (session : Session) (a b : BusView) → b.lines ≡ a.lines → a.card.state ≡ Tran
    → IsFreed a.card b.card → StandsAs session a → StandsAs session b
stands_with_blocks session a b lines tran e stands =
    let was = stands.stands.selected (ap is_selected tran) in
    let now : b.card.state ≡ Tran = freed (λ (c : Card). c.state) a.card b.card refl e ∙ tran in
    record {
      part = stands.part;
      is_part = stands.is_part;
      stands = record {
        selected = λ up. freed_setting _ a.card b.card refl was e;
        sends = λ sends. cc (now, sends);
        reset = λ down. cc (ap is_selected now, down);
      };
      lines = lines ∙ stands.lines;
    }

-- it stands so when a command meets it, too
stands_met : (session : Session) (old met : BusView) → Passes old met → StandsAs session old → StandsAs session met
stands_met session old met passes stands = record {
  part = stands.part;
  is_part = stands.is_part;
  stands = stands_in_time old met passes _ stands.stands;
  lines = beside_card old met passes (λ (v : BusView). v.lines) (λ card faults. refl) ∙ stands.lines;
}

-- and after CMD16, which met it in tran
stands_once_set : (session : Session) (a b : BusView) → b.lines ≡ a.lines
    → AfterSomeTime a (λ card. (card.state ≡ Tran) × IsFreed card b.card) → StandsAs session a → StandsAs session b
stands_once_set session a b lines blocks stands =
    let at = beside_card a blocks.0 blocks.1 (λ (v : BusView). v.lines) (λ card faults. refl) in
    stands_with_blocks session blocks.0 b (lines ∙ sym at) blocks.2.0 blocks.2.1
    (stands_met session a blocks.0 blocks.1 stands)

-- Blocks were set, and what came then failed.
pub restores_none_then : {Own Fine : BusView → BusView → Type 0} (info : Info) (first r : Result Unit Cause) (a b c : BusView)
    → IsOk first → IsErr r → b.lines ≡ a.lines → SetsBlocks first a b → Worked Narrows Own Fine b c → Restored info r a c
restores_none_then info first r a b c one err lines p q =
    moved_then a b c p q
    (λ session same knows stands.
    (λ ok. refuted r err ok, λ unheard. stands_then session b c q.set (stands_once_set session a b lines (p.own one) stands)))
    (λ same. tt)

-- the card after CMD16 and two CMD13, of which the last one finds it in order
in_order_again : (kind : Kind) (session : Session) (c d : BusView) → c.card.erase ≡ NoAddress
    → d.card ≡ shown c.card → IsInOrder kind c.card → IsCard d.card → Knows session d → StandsAs session d
    → IsReady session d
in_order_again kind session c d erase f order is knows stands =
    ready_again session d is knows stands
    (quiet_by (ap (λ (x : Card). x.state) f ∙ order.tran) (ap (λ (x : Card). x.app) f) (ap (λ (x : Card). x.command_errors) f) (ap (λ (x : Card). x.errors) f) (ap (λ (x : Card). x.switch_error) f) (ap (λ (x : Card). x.count) f) (ap (λ (x : Card). x.erase) f ∙ erase))
    (ap (λ (x : Card). x.is_busy) f ∙ order.rests) (ap (λ (x : Card). x.lags) f)

pub puts_in_order : {X : Type 0} {Fine : BusView → BusView → Type 0} (info : Info) (kind : Kind)
    (first : Result Unit Cause) (second : Result X Cause)
    (last : Result Unit Cause) (a b c d : BusView) → IsOk first → IsOk second → b.lines ≡ a.lines
    → SetsBlocks first a b → Shows second b c
    → Worked Narrows (λ old new. IsOk last
    → AfterSomeTime old (λ card. IsInOrder kind card × (new.card ≡ shown card))) Fine c d
    → Restored info last a d
puts_in_order info kind first second last a b c d one two lines p q r =
    let rest = stirs_then b c d q r in
    let all : Moved Anything Anything a d = moved_then a b d p rest tt (λ same. tt) in
    moved_as a d all
    (λ session same knows stands.
    let blocks = p.own one in
    let still = stands_then session b d rest.set (stands_once_set session a b lines blocks stands) in (
      λ ok.
          let showed = q.own two in
          let final = r.own ok in
          let none = (unmoved_by_time c final.0 final.1).erase ∙ ap (λ (x : Card). x.erase) showed.2
          ∙ (unmoved_by_time b showed.0 showed.1).erase ∙ freed (λ (x : Card). x.erase) blocks.0.card b.card refl blocks.2.1 in
          in_order_again kind session final.0 d none final.2.1 final.2.0 r.is_card
          (knows_then session a d all.stays knows) still,
      λ unheard. still,
    ))
    (λ same. tt)

-- The card's work is ended, and then it is put in order.

pub restores : {Own Fine : BusView → BusView → Type 0} (info : Info) (r : Result Unit Cause) (a b c : BusView)
    → Worked Narrows Own Fine a b → Restored info r b c → Restored info r a c
restores info r a b c p q =
    moved_then a b c p q
    (λ session same knows stands.
    q.own session same (knows_then session a b p.stays knows) (stands_then session a b p.set stands))
    (λ same. tt)

-- An answer wasn't heard, and it is tried once more.
pub restores_again : (info : Info) (first r : Result Unit Cause) (a b c : BusView) → Restored info first a b → first ≡ Err Answer
    → Restored info r b c → Restored info r a c
restores_again info first r a b c p unheard q =
    moved_then a b c p q
    (λ session same knows stands.
    q.own session same (knows_then session a b p.stays knows) ((p.own session same knows stands).1 unheard))
    (λ same. tt)
