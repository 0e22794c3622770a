-- A card that is reset: it is initialized again.
use Rattle.std.proofs.Common.{◌∙◌, ◌≡◌, Bool, ap, false, refl, subst, sym, true}
use Rattle.std.specs.Prelude.{Err, IfOk, IsOk, None, Ok, Result}
use Rattle.mmc_card.specs.BusView.{BusView}
use Rattle.mmc_card.specs.Card.{IsCard}
use Rattle.mmc_card.specs.Made.{HasRegisters, Made}
use Rattle.mmc_card.specs.declared.exchange.Lines.{Lines}
use Rattle.mmc_card.specs.Profile.{InProfile}
use Rattle.mmc_bus.proofs.WorkLemmas.{moved_as}
use Rattle.mmc_bus.specs.Learned.{Stays}
use Rattle.mmc_bus.specs.Work.{Moved}
use Rattle.mmc_switch.specs.Info.{IsInfo, IsKnown}
use Rattle.mmc_switch.specs.Place.{IsBroken, IsInitialized, IsReady, Knows}
use Rattle.mmc_switch.specs.declared.broken.Broken.{Broken}
use Rattle.mmc_switch.specs.declared.info.Info.{Info}
use Rattle.mmc_switch.specs.declared.initialization.InitializationFault.{InitializationFault}
use Rattle.mmc_switch.specs.declared.session.Session.{Session}
use Rattle.mmc_switch.proofs.UnderWayLemmas.{knows_then}
use Rattle.mmc_recovery.specs.Settled.{Leaves, given_up}

-- what initializing the card does
abbrev pub Initializes : Result Session InitializationFault → BusView → BusView → Type 0
Initializes r =
    Moved (λ old new. IfOk r (λ session. IsInitialized session new))
    (λ old new. InProfile old.card.made → IsOk r)

-- What is left of a reset.

abbrev pub Resets : Broken → Result Session Broken → BusView → BusView → Type 0
Resets broken r =
    Moved (λ old new. Knows broken.session old → Leaves r new)
    (λ old new. InProfile old.card.made → Knows broken.session old → IsOk r)

-- the card is the one that it was
pub resets_so : (broken : Broken) (session used : Session) (a b : BusView)
    → ((view : BusView) → IsKnown view.limits view.card.made broken.session.info → IsReady session view → IsReady used view)
    → Initializes (Ok session) a b → Resets broken (Ok used) a b
resets_so broken session used a b ready p =
    moved_as a b p (λ knows. ready b (knows_then broken.session a b p.stays knows).info p.own.ready) (λ same profile knows. refl)

knows_no_part : (session : Session) (view : BusView) → Knows session view
    → Knows (record session { selected = None }) view
knows_no_part session view knows = record { info = knows.info; partition_config = knows.partition_config }

left_broken : (broken left : Broken) (a b : BusView) → left ≡ given_up broken → IsCard b.card → Stays a b
    → Knows broken.session a → IsBroken left b
left_broken broken left a b e is stays knows =
    let is_broken : IsBroken (given_up broken) b = record {
      is_card = is;
      knows = knows_no_part broken.session b (knows_then broken.session a b stays knows);
      stands = λ no_reset. cc (no_reset);
    } in
    subst (λ x. IsBroken x b) (sym e) is_broken

-- it wasn't initialized
pub resets_none : (broken left : Broken) (fault : InitializationFault) (a b : BusView) → left ≡ given_up broken
    → Initializes (Err fault) a b → Resets broken (Err left) a b
resets_none broken left fault a b e p =
    moved_as a b p (λ knows. left_broken broken left a b e p.is_card p.stays knows)
    (λ same profile knows. cc (p.fine same profile))

-- it is another one
pub resets_other : (broken left : Broken) (session : Session) (one other : Info) (is_same : Bool) (a b : BusView)
    → left ≡ given_up broken → one ≡ session.info → other ≡ broken.session.info → is_same ≡ false
    → ((limits : Lines) (made : Made) → HasRegisters made → IsInfo limits made one → IsKnown limits made other → is_same ≡ true)
    → Initializes (Ok session) a b → Resets broken (Err left) a b
resets_other broken left session one other is_same a b e now was differs known p =
    moved_as a b p (λ knows. left_broken broken left a b e p.is_card p.stays knows)
    (λ same profile knows.
    let made = b.card.made in
    let still = knows_then broken.session a b p.stays knows in
    let is = known b.limits made p.is_card.registers (subst (IsInfo b.limits made) (sym now) p.own.info)
    (subst (IsKnown b.limits made) (sym was) still.info) in
    cc (is, differs))
