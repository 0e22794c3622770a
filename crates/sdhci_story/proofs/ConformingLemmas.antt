-- To steps that follow each other there is a story: after each beginning of them the controller that they led to, and after anything
-- else one that isn't kept.
use Rattle.std.proofs.Common.{◌∙◌, ◌≡◌, ◌≤◌, ◌∷◌, [], List, None, Some, ap, arith, cond, false, length, refl, sym, true}
use Rattle.std.proofs.lemmas.Bool.{cond_both, false≢true}
use Rattle.mmc_sdhci.specs.Controller.{ControllerView}
use Rattle.mmc_sdhci.specs.Driver.{IsNew}
use Rattle.sdhci_story.proofs.Telling.{are_alike, are_same, are_themselves}
use Rattle.sdhci_story.specs.Access.{Access, BlocksLent, Misused, Pause, PlaceTaken, PlacesTaken, PortRead, PortWritten, Read32, Read8}
use Rattle.sdhci_story.specs.Access.{RoomLent, TableLent, TakenBack, Wait, Write32, Write8}
use Rattle.sdhci_story.specs.Conforming.{AreSteps}
use Rattle.sdhci_story.specs.RegisterStory.{IsAccess, RegisterStory}

-- the same, of which nothing is told
abbrev unkept : ControllerView → ControllerView
unkept view = record view { is_kept = false }

controller_of : (past : List Access) (view : ControllerView) → AreSteps past view → List Access → ControllerView
controller_of [] view steps es = cond (are_same es []) view (unkept view)
controller_of (a ∷ past) view s es = cond (are_same es (a ∷ past)) view (controller_of past s.0 s.1 es)

-- only a beginning
shorter : (past : List Access) (view : ControllerView) (s : AreSteps past view) (es : List Access)
    → (controller_of past view s es).is_kept ≡ true → length es ≤ length past
unfolding controller_of
shorter [] view s es =
    cond_both (are_same es []) view (unkept view) (λ o. o.is_kept ≡ true → length es ≤ 0)
    (λ p said. rw (are_alike es [] p) (omega arith)) (λ p said. absurd (false≢true said))
shorter (a ∷ past) view s es =
    cond_both (are_same es (a ∷ past)) view (controller_of past s.0 s.1 es)
    (λ o. o.is_kept ≡ true → length es ≤ length (a ∷ past))
    (λ p said. rw (are_alike es (a ∷ past) p) (omega arith))
    (λ p said. let h = shorter past s.0 s.1 es said in omega (arith, h))

at_the_end : (past : List Access) (view : ControllerView) (s : AreSteps past view) → controller_of past view s past ≡ view
unfolding controller_of
at_the_end [] view s = rw (are_themselves []) refl
at_the_end (a ∷ past) view s = rw (are_themselves (a ∷ past)) refl

heads : List Access → Access → Access
heads [] e = e
heads (x ∷ xs) e = x

rest : List Access → List Access
rest [] = []
rest (x ∷ xs) = xs

-- what isn't kept tells nothing
untold : (old new : ControllerView) (access : Access) → (new.is_kept ≡ true → IsAccess old access new) → IsAccess old access new
untold old new (Read32 offset value) f = λ kept. f kept kept
untold old new (Write32 offset value) f = λ kept. f kept kept
untold old new (Read8 offset value) f = λ kept. f kept kept
untold old new (Write8 offset value) f = λ kept. f kept kept
untold old new (Pause micros) f = λ kept. f kept kept
untold old new (Wait interrupts micros) f = λ kept. f kept kept
untold old new (PortRead block) f = λ kept. f kept kept
untold old new (PortWritten block) f = λ kept. f kept kept
untold old new (RoomLent count None) f = λ kept. f kept kept
untold old new (RoomLent count (Some place)) f = λ kept. f kept kept
untold old new (BlocksLent blocks None) f = λ kept. f kept kept
untold old new (BlocksLent blocks (Some place)) f = λ kept. f kept kept
untold old new (TableLent is_wide None) f = λ kept. f kept kept
untold old new (TableLent is_wide (Some place)) f = λ kept. f kept kept
untold old new (PlaceTaken index block) f = λ kept. f kept kept
untold old new (PlacesTaken first bytes) f = λ kept. f kept kept
untold old new TakenBack f = λ kept. f kept kept
untold old new Misused f = λ kept. f kept kept

explains : (past : List Access) (view : ControllerView) (s : AreSteps past view) (access : Access) (es : List Access)
    → (controller_of past view s (access ∷ es)).is_kept ≡ true
    → IsAccess (controller_of past view s es) access (controller_of past view s (access ∷ es))
unfolding controller_of heads rest
explains [] view s access es =
    λ said. let long = shorter [] view s (access ∷ es) said in absurd (omega (arith, long))
explains (a ∷ past) view s access es =
    cond_both (are_same (access ∷ es) (a ∷ past)) view (controller_of past s.0 s.1 (access ∷ es))
    (λ o. o.is_kept ≡ true → IsAccess (controller_of (a ∷ past) view s es) access o)
    (λ p said. let q = are_alike (access ∷ es) (a ∷ past) p in
    let is_rest : es ≡ past = ap rest q in
    let is_a : access ≡ a = ap (λ xs. heads xs access) q in
    rw is_a (cond_both (are_same es (a ∷ past)) view (controller_of past s.0 s.1 es)
    (λ o. IsAccess o a view)
    (λ r. let long = ap length (sym is_rest) in let longer = ap length (are_alike es (a ∷ past) r) in absurd (omega (arith, long, longer)))
    (λ r. rw is_rest (rw (at_the_end past s.0 s.1) s.2))))
    (λ p said. cond_both (are_same es (a ∷ past)) view (controller_of past s.0 s.1 es)
    (λ o. IsAccess o access (controller_of past s.0 s.1 (access ∷ es)))
    (λ r. let short = shorter past s.0 s.1 (access ∷ es) said in
    let longer = ap length (are_alike es (a ∷ past) r) in absurd (omega (arith, short, longer)))
    (λ r. explains past s.0 s.1 access es said))

unkept_is_new : (view : ControllerView) → IsNew (unkept view)
unkept_is_new view = λ said. absurd (false≢true said)

begins : (past : List Access) (view : ControllerView) (s : AreSteps past view) → IsNew (controller_of past view s [])
unfolding controller_of
begins [] view s = cond_both (are_same [] []) view (unkept view) (λ o. IsNew o) (λ p. s) (λ p. unkept_is_new view)
begins (a ∷ past) view s =
    cond_both (are_same [] (a ∷ past)) view (controller_of past s.0 s.1 []) (λ o. IsNew o)
    (λ p. let long = ap length (are_alike [] (a ∷ past) p) in absurd (omega (arith, long))) (λ p. begins past s.0 s.1)

-- all have the same built in
built_of : (past : List Access) (view : ControllerView) (s : AreSteps past view) (es : List Access)
    → (controller_of past view s es).built ≡ view.built
unfolding controller_of
built_of [] view s es = cond_both (are_same es []) view (unkept view) (λ o. o.built ≡ view.built) (λ p. refl) (λ p. refl)
built_of (a ∷ past) view s es =
    cond_both (are_same es (a ∷ past)) view (controller_of past s.0 s.1 es) (λ o. o.built ≡ view.built) (λ p. refl)
    (λ p. built_of past s.0 s.1 es ∙ sym s.3)

pub story_of : (past : List Access) (view : ControllerView) → AreSteps past view
    → (story : RegisterStory) × (story.controller past ≡ view)
story_of past view s = (
  record {
    controller = controller_of past view s;
    built = view.built;
    same = built_of past view s;
    begins = begins past view s;
    explains = λ access es. untold (controller_of past view s es) (controller_of past view s (access ∷ es)) access
        (explains past view s access es);
  },
  at_the_end past view s,
)

pub steps_of : (story : RegisterStory) (past : List Access) → AreSteps past (story.controller past)
steps_of story [] = story.begins
steps_of story (access ∷ past) =
    (story.controller past, steps_of story past, story.explains access past, story.same (access ∷ past) ∙ sym (story.same past))
