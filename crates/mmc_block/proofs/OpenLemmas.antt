-- What a device is whose card was opened.
use Rattle.std.proofs.Common.{◌∙◌, ◌≡◌, [], ap, inr, refl, subst, sym}
use Rattle.std.specs.Prelude.{Ok, Result}
use Rattle.mmc_frame.specs.declared.kind.Kind.{Kind}
use Rattle.mmc_frame.specs.declared.kind.Kind.TheVariants.{Mmc, Sd}
use Rattle.mmc_card.specs.BusView.{BusView}
use Rattle.mmc_card.specs.declared.exchange.Lines.{Lines}
use Rattle.mmc_card.specs.declared.exchange.Timing.{Timing}
use Rattle.mmc_bus.proofs.WorkLemmas.{stays_same}
use Rattle.mmc_bus.specs.Learned.{Stays}
use Rattle.mmc_bus.specs.Work.{Narrows}
use Rattle.mmc_card.specs.Made.{Made}
use Rattle.mmc_switch.proofs.InitializeLemmas.{Initializes}
use Rattle.mmc_switch.proofs.UnderWayLemmas.{said_before}
use Rattle.mmc_switch.specs.Info.{IsInfo, IsTimingOver, lasting, lasting_timing}
use Rattle.mmc_switch.specs.Place.{IsReady}
use Rattle.mmc_switch.specs.declared.initialization.InitializationFault.{InitializationFault}
use Rattle.mmc_switch.specs.declared.session.Session.{Session}
use Rattle.mmc_switch.specs.declared.info.Info.{Info}
use Rattle.mmc_card.specs.Card.{holds}
use Rattle.mmc_recovery.specs.declared.healed.Healed.{Healed}
use Rattle.mmc_block.specs.Device.{AgreesCounted, IsOpened}
use Rattle.mmc_block.specs.Machine.{Machine, opened}
use Rattle.mmc_block.specs.Execution.{Counted}
use Rattle.mmc_switch.specs.declared.stands.Stands.TheVariants as Stands
use Rattle.mmc_block.specs.Service.Service.{Idle}

-- What is known for good is what the registers say and the host can.
timing_lasts : (limits : Lines) (made : Made) (kind : Kind) (timing : Timing) → made.kind ≡ kind
    → IsTimingOver limits made timing → IsTimingOver limits made (lasting_timing kind timing)
timing_lasts limits made Sd timing is known = inr (is, refl)
timing_lasts limits made Mmc timing is known = known

lasting_info : (limits : Lines) (made : Made) (info : Info) → IsInfo limits made info
    → IsInfo limits made (lasting info)
lasting_info limits made info k = record {
  kind = k.kind;
  addressing = k.addressing;
  rca = λ mmc. refl;
  cid = k.cid;
  says = k.says;
  csd = k.csd;
  sizes = k.sizes;
  read_only = k.read_only;
  erase_unit = k.erase_unit;
  erased_byte = k.erased_byte;
  trims = k.trims;
  cmd23 = k.cmd23;
  width = k.width;
  timing = timing_lasts limits made info.kind info.timing (sym k.kind) k.timing;
}

pub opens_known : (session : Session) (info now : Info) (a b : BusView) → info ≡ lasting now → now ≡ session.info
    → Initializes (Ok session) a b → IsInfo a.limits a.card.made info
opens_known session info now a b is from p =
    subst (IsInfo a.limits a.card.made) (sym (is ∙ ap lasting from))
    (lasting_info a.limits a.card.made session.info
    (said_before (λ limits made. IsInfo limits made session.info) a b p.stays p.own.info))

-- What stays, and what sectors may hold.
pub opens_stays : (r : Result Session InitializationFault) (a b : BusView) → Initializes r a b → Stays a b × Narrows a b
opens_stays r a b p = (p.stays, p.sectors)

-- Where nothing was done.
pub stays_as_is : (a : BusView) → Stays a a × Narrows a a
stays_as_is a = (
  stays_same a a.lines,
  λ part sector value h. h,
)

-- A device of which nothing waits agrees with a machine of its own.
pub opens_agreed : {B : Type 0} (view : B → BusView) (bus : B) (info : Info) (session : Session) (healed : Healed)
    (c : Counted) → IsReady session (view bus) → IsOpened (view bus) c
    → AgreesCounted view (record {
      bus = bus;
      info = info;
      service = Idle (Stands.Ready session);
      waits = [];
      next = 0;
      healed = healed;
    }) c
opens_agreed view bus info session healed c ready new =
    let is : c.machine ≡ opened (holds (view bus).card) = new.machine in
    record {
      agrees = record {
        waits = ap (λ (m : Machine). m.waits) is;
        in_service = ap (λ (m : Machine). m.in_service) is;
        next = ap (λ (m : Machine). m.next) is;
        within = rw is (λ part sector value may. may);
      };
      faults = new.faults;
      in_profile = new.in_profile;
      fell = 0;
      placed = ready;
      own = λ profile. tt;
    }
