-- The parts of a window, and the windows of a long request, one after the other.
use Rattle.std.proofs.Common.{[], ap, subst, sym, ◌+◌, ◌++◌, ◌∙◌, ◌∷◌, ◌≡◌, List, Result, ℕ}
use Rattle.std.specs.Prelude.{IfErr, IfOk, IsErr, IsErrAnd}
use Rattle.mmc_card.specs.BusView.{BusView}
use Rattle.mmc_block.specs.Device.{unanswered_of}
use Rattle.nbd_messages.specs.declared.error.ReplyError.{ReplyError}
use Rattle.nbd_messages.specs.declared.error.ReplyError.TheVariants.{Failed}
use Rattle.nbd_server.specs.Acts.{Act, AreOfParts}
use Rattle.nbd_server.specs.Desk.{DeskView, Leads}
use Rattle.nbd_server.specs.Parts.{AreWindows, HasFailedPart, InTurn, Window, accepted, firsts, gathered}
use Rattle.mmc_queue.specs.declared.request.Request.{Request}
use Rattle.nbd_server.proofs.DeskLemmas.{leads_none, leads_then, no_parts, of_parts_then}
use Rattle.nbd_server.proofs.PartsLemmas.{asked_more, gathered_then, if_err_passed, in_turn_then, no_windows, none_asked, none_in_turn, nothing_gathered, window_more}
use Rattle.nbd_server.proofs.SessionLemmas.{if_no_ok}

-- So many first ones of these requests were accepted, and none was answered yet.
pub record Asked {B : Type 0} (view : B → BusView) (old now : DeskView B) (each : ℕ → Request) (n : ℕ) : Type 0 where
  pub acts : List Act
  pub of_parts : AreOfParts acts
  pub leads : Leads view old acts now
  pub none : gathered acts ≡ []
  pub asked : accepted acts ≡ firsts each n

pub none_yet : {B : Type 0} (view : B → BusView) (d : DeskView B) (each : ℕ → Request) → Asked view d d each 0
none_yet view d each =
    record { acts = []; of_parts = no_parts; leads = leads_none view d; none = nothing_gathered; asked = none_asked each }

gathers_nothing : (xs ys : List Act) → gathered xs ≡ [] → gathered ys ≡ [] → gathered (xs ++ ys) ≡ []
gathers_nothing xs ys first second = gathered_then xs ys ∙ ap (λ zs. zs ++ gathered ys) first ∙ second

pub one_asked : {B : Type 0} (view : B → BusView) (a b c : DeskView B) (each : ℕ → Request) (n : ℕ) (request : Request)
    (acts : List Act) → Asked view a b each n → AreOfParts acts → Leads view b acts c → gathered acts ≡ []
    → accepted acts ≡ request ∷ [] → request ≡ each n → Asked view a c each (n + 1)
one_asked view a b c each n request acts h of_parts leads none asked is = record {
  acts = h.acts ++ acts;
  of_parts = of_parts_then h.acts acts h.of_parts of_parts;
  leads = leads_then view a b c h.acts acts h.leads leads;
  none = gathers_nothing h.acts acts h.none none;
  asked = asked_more each n request h.acts acts h.asked asked is;
}

-- one isn't accepted
pub none_more : {B X E : Type 0} (view : B → BusView) (a b c : DeskView B) (each : ℕ → Request) (n : ℕ) (acts : List Act)
    (r : Result X E) (P : List Act → X → Type 0) → Asked view a b each n → AreOfParts acts → Leads view b acts c
    → gathered acts ≡ [] → IsErr r
    → (all : List Act) × AreOfParts all × Leads view a all c × (gathered all ≡ []) × IfOk r (P all)
none_more view a b c each n acts r P h of_parts leads none failed = (
  h.acts ++ acts,
  of_parts_then h.acts acts h.of_parts of_parts,
  leads_then view a b c h.acts acts h.leads leads,
  gathers_nothing h.acts acts h.none none,
  if_no_ok r (P (h.acts ++ acts)) failed,
)

-- an error after these acts, and why
pub parts_failed : {B X : Type 0} (view : B → BusView) (a b c : DeskView B) (xs ys : List Act) (r : Result X ReplyError)
    (e : ReplyError) (P : List Act → X → Type 0) → IsErr r → IsErrAnd r (λ d. d ≡ e) → AreOfParts xs → AreOfParts ys
    → Leads view a xs b → Leads view b ys c → (e ≡ Failed → HasFailedPart (xs ++ ys))
    → (acts : List Act) × AreOfParts acts × Leads view a acts c × IfOk r (P acts)
    × IfErr r (λ error. error ≡ Failed → HasFailedPart acts)
parts_failed view a b c xs ys r e P failed same of_xs of_ys leads_xs leads_ys why = (
  xs ++ ys,
  of_parts_then xs ys of_xs of_ys,
  leads_then view a b c xs ys leads_xs leads_ys,
  if_no_ok r (P (xs ++ ys)) failed,
  if_err_passed r e (λ error. error ≡ Failed → HasFailedPart (xs ++ ys)) same why,
)

-- What the first windows have done: so many sectors, and these bytes.
pub record SoFar {B : Type 0} (view : B → BusView) (old now : DeskView B) (Served : ℕ → Window → Type 0) (start done : ℕ)
    (bytes : List ℕ) : Type 0 where
  pub acts : List Act
  pub windows : List Window
  pub of_parts : AreOfParts acts
  pub leads : Leads view old acts now
  pub served : InTurn Served start windows
  pub are : AreWindows windows done acts bytes
  pub none : unanswered_of now.device ≡ 0
  pub cleared : now.cookies ≡ []

pub nothing_yet : {B : Type 0} (view : B → BusView) (d : DeskView B) (Served : ℕ → Window → Type 0) (start : ℕ)
    → unanswered_of d.device ≡ 0 → d.cookies ≡ [] → SoFar view d d Served start 0 []
nothing_yet view d Served start none cleared = record {
  acts = [];
  windows = [];
  of_parts = no_parts;
  leads = leads_none view d;
  served = none_in_turn Served start;
  are = no_windows;
  none = none;
  cleared = cleared;
}

-- one window more
pub one_more : {B : Type 0} (view : B → BusView) (a b c : DeskView B) (Served : ℕ → Window → Type 0) (start done first : ℕ)
    (bytes : List ℕ) (w : Window) → SoFar view a b Served start done bytes → AreOfParts w.acts → Leads view b w.acts c
    → first ≡ start + done → Served first w → unanswered_of c.device ≡ 0 → c.cookies ≡ []
    → SoFar view a c Served start (done + w.count) (bytes ++ w.bytes)
one_more view a b c Served start done first bytes w h of_parts leads place is none cleared = record {
  acts = h.acts ++ w.acts;
  windows = h.windows ++ w ∷ [];
  of_parts = of_parts_then h.acts w.acts h.of_parts of_parts;
  leads = leads_then view a b c h.acts w.acts h.leads leads;
  served = in_turn_then Served start h.windows w h.served
      (subst (λ k. Served k w) (place ∙ ap (λ k. start + k) (sym h.are.sectors)) is);
  are = window_more h.windows done w.count h.acts w.acts bytes w.bytes h.are;
  none = none;
  cleared = cleared;
}
