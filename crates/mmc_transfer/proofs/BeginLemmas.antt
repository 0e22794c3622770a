-- The command that begins a run.
use Rattle.std.proofs.Common.{◌&&◌, ◌+◌, ◌||◌, ◌-◌, ◌<◌, ◌∙◌, ◌≡◌, ◌≤◌, Bool, List, ap, arith, false, inl}
use Rattle.std.proofs.Common.{length, refl, subst, sym, true, ℕ}
use Rattle.std.specs.Prelude.{◌==◌, IsErr, None, Ok, Option, Result, Some, if◌then◌else◌, nat_le}
use Rattle.std.proofs.lemmas.Bool.Decides.{nat_tests}
use Rattle.mmc_frame.specs.declared.kind.Kind.{Kind}
use Rattle.mmc_card.specs.Blocks.{next_written}
use Rattle.mmc_card.specs.BusView.{BusView}
use Rattle.mmc_card.specs.Card.{NoAddress, is_selected, stored}
use Rattle.mmc_card.specs.Laws.{IsStill, Setting}
use Rattle.mmc_card.proofs.ToldLemmas.{told_unprotected}
use Rattle.mmc_card.specs.Made.{is_misaligned, is_read_only, sector_at}
use Rattle.mmc_card.specs.Sectors.{Sector}
use Rattle.mmc_bus.specs.Work.{Narrows, Worked}
use Rattle.mmc_bus.specs.declared.cause.Cause.{Cause}
use Rattle.mmc_switch.proofs.UnderWayLemmas.{no_error, part_in, quiet_by, room_is, set_in, still_idle}
use Rattle.mmc_switch.proofs.AddressLemmas.{address_aligned, sector_named}
use Rattle.mmc_switch.specs.UnderWay.{room_of}
use Rattle.mmc_transfer.proofs.StepLemmas.{from_both, fails, goes_there}
use Rattle.mmc_transfer.specs.Fits.{is_counted_by}
use Rattle.mmc_switch.specs.Address.{address_of}
use Rattle.mmc_transfer.specs.Commands.{CanStart, is_write, starts}
use Rattle.mmc_transfer.specs.Running.{Exact, GoesOnAt, IsIn, IsSending, IsTaking, Turned, by_way, preset_of}
use Rattle.mmc_switch.specs.UnderWay.{IsIdle}
use Rattle.mmc_transfer.specs.declared.job.Job.{Job}
use Rattle.mmc_transfer.specs.declared.phase.Phase.{Phase}
use Rattle.mmc_transfer.specs.declared.phase.Phase.TheVariants.{Block, Other}
use Rattle.mmc_transfer.specs.declared.phase.Step.TheVariants.{Command}
use Rattle.mmc_transfer.specs.declared.way.Way.{Way}
use Rattle.mmc_transfer.specs.declared.way.Way.TheVariants.{Read, Write}

-- what the command that begins a transfer does
abbrev pub Starts : Kind → Way → Bool → ℕ → Bool → BusView → BusView → Type 0
Starts kind way is_single address ok =
    Worked Narrows
    (λ old new. ok ≡ true → IsStill old.card → old.card.erase ≡ NoAddress → new.card ≡ starts way is_single old.card address)
    (λ old new. CanStart kind way old.card address → ok ≡ true)

-- No error of a transfer.

below_end : (n s : ℕ) → s < n → nat_le n s ≡ false
below_end n s h = grind (arith, nat_tests)

unprotected_by : (way : Way) (b : Bool) → (way ≡ Write → b ≡ false) → (is_write way && b) ≡ false
unprotected_by Read b writable = refl
unprotected_by Write b writable = writable refl

-- The blocks to come, as CMD23 has preset them.

left_so : (one b : Bool) (n now : ℕ) → 1 ≤ n → (one ≡ true → n ≡ 1) → now ≡ (if one then 0 else if b then n else 0)
    → (if one then Some 1 else if now == 0 then None else Some now) ≡ (if one || b then Some (n - 0) else None)
left_so true b n now some single is = let n_is = single refl in let all : 1 ≡ n - 0 = omega (arith, n_is) in ap Some all
left_so false true n now some single is =
    let several : (now == 0) ≡ false = grind (arith, nat_tests) in
    let all : now ≡ n - 0 = omega (arith, is) in
    rw several (ap Some all)
left_so false false n now some single is = rw is refl

is_one : (n : ℕ) → (n == 1) ≡ true → n ≡ 1
is_one n single = grind (arith, nat_tests)

left_by : (n : ℕ) (b : Bool) (now : ℕ) → 1 ≤ n → now ≡ (if n == 1 then 0 else if b then n else 0)
    → (if n == 1 then Some 1 else if now == 0 then None else Some now)
    ≡ (if is_counted_by n b then Some (n - 0) else None)
left_by n b now some is = left_so (n == 1) b n now some (is_one n) is

module _ (job : Job) (blocks : List Sector) (faults : ℕ) (kind : Kind) (address : ℕ) (a b : BusView)
    (of_kind : kind ≡ job.session.info.kind) (addressed : address ≡ address_of job.session.info.addressing job.start)
    (at : IsIn job blocks (Other Command) faults a) where
  sector_is : sector_at a.card.made address ≡ job.start
  sector_is = rw addressed (sector_named job.session a at.under_way.knows job.start)

  -- the exact card can start
  pub can_start : Exact job blocks (Other Command) a.card → CanStart kind job.way a.card address
  can_start exact =
      let idle : IsIdle (preset_of job) a.card = from_both job.way exact in
      let selected : is_selected a.card.state ≡ true = ap is_selected idle.quiet.state in
      let some = job.some in
      let fits = job.inside in
      let part = part_in job.session a job.selected at.under_way.stands selected in
      let room = room_is job.session a at.under_way.is_card.sizes at.under_way.knows (omega (arith, some, fits)) in
      let size : length (stored a.card a.card.part) ≡ room_of job.session =
      ap (λ p. length (stored a.card p)) part ∙ room in
      let at_start = sector_is in
      let inside : nat_le (length (stored a.card a.card.part)) (sector_at a.card.made address) ≡ false =
      below_end _ _ (omega (arith, some, fits, size, at_start)) in
      let whole : is_misaligned a.card.made address ≡ false =
      rw addressed (address_aligned job.session a at.under_way.knows job.start) in
      let block : a.card.block_length ≡ 512 =
      ap (λ (s : Setting). s.block_length) (set_in job.session a job.selected at.under_way.stands selected) in
      let unprotected : (is_write job.way && is_read_only a.card.made) ≡ false =
      let info = at.under_way.knows.info in
      unprotected_by job.way (is_read_only a.card.made)
      (λ writes. told_unprotected info.says a.card.made at.under_way.is_card.registers (sym info.read_only ∙ job.writable writes)) in
      record {
        obeys = record {
          is_still = still_idle (preset_of job) a.card idle;
          is_kind = sym at.under_way.knows.info.kind ∙ sym of_kind;
          tran = idle.quiet.state;
          erase = idle.quiet.erase;
          no_error = no_error kind (preset_of job) a.card idle.quiet;
        };
        allowed = rw (inside, whole, block, unprotected) refl;
      }

  pub begin_fails : (result : Result (Option Phase) Cause) → IsErr result
      → Starts kind job.way (job.count == 1) address false a b → Turned job blocks faults a result b
  begin_fails result err work =
      fails job blocks (Other Command) faults a b at work result err
      (λ exact same. cc (work.fine same (can_start exact)))

  -- it has begun
  is_begun : (way : Way) → IsIdle (preset_of job) a.card
      → by_way way (IsSending 0 job blocks (starts way (job.count == 1) a.card address))
      (IsTaking 0 job blocks (starts way (job.count == 1) a.card address)
      × ((starts way (job.count == 1) a.card address).is_busy ≡ false))
  is_begun Read idle = record {
    quiet = quiet_by refl refl refl refl refl refl idle.quiet.erase;
    rests = idle.rests;
    up_to_date = refl;
    errors = inl refl;
    source = refl;
    next = (let at_start = sector_is in omega (arith, at_start));
    left = left_by job.count job.session.info.cmd23 a.card.count job.some idle.quiet.count;
    read = λ i less. absurd (omega (arith, less));
  }
  is_begun Write idle = (
    record {
      quiet = quiet_by refl refl refl refl refl refl idle.quiet.erase;
      start = sector_is;
      values = refl;
      left = left_by job.count job.session.info.cmd23 a.card.count job.some idle.quiet.count;
    },
    idle.rests,
  )

  -- and its next block is the first one
  begun_there : (way : Way) → b.card ≡ starts way (job.count == 1) a.card address
      → by_way way (Unit {0}) (GoesOnAt (job.start + 0) b.card)
  begun_there Read is = tt
  begun_there Write is = λ rcv. let at_start = sector_is in ap next_written is ∙ omega (arith, at_start)

  pub begin_goes_on : Starts kind job.way (job.count == 1) address true a b
      → Turned job blocks faults a (Ok (Some (Block 0))) b
  begin_goes_on work =
      goes_there job blocks (Other Command) faults a b at work (Block 0) tt
      (λ exact. let idle : IsIdle (preset_of job) a.card = from_both job.way exact in
      subst (Exact job blocks (Block 0)) (sym (work.own refl (still_idle (preset_of job) a.card idle) idle.quiet.erase)) (is_begun job.way idle))
      (let idle : IsIdle (preset_of job) a.card = from_both job.way (at.under_way.shown tt) in
      begun_there job.way (work.own refl (still_idle (preset_of job) a.card idle) idle.quiet.erase))
