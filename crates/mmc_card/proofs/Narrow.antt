-- No step lets a sector have a value that it might not have before, but for a block that the card accepts and for what
-- an erase erases.
use Rattle.std.proofs.Common.{◌&&◌, ◌*◌, ◌++◌, ◌+◌, ◌-◌, ◌∙◌, ◌∷◌, ◌≡◌, Bool, List, [], ap, arith, cond, false, inl}
use Rattle.std.proofs.Common.{inr, length, not, refl, subst, true, ℕ, ◌≤◌}
use Rattle.std.specs.Prelude.{◌==◌, None, Option, Some, slice_index_or, if◌then◌else◌}
use Rattle.mmc_frame.specs.Field.{field}
use Rattle.mmc_frame.specs.declared.card_state.State.{State}
use Rattle.mmc_frame.specs.declared.card_state.State.TheVariants.{Data, Prg, Rcv, Tran}
use Rattle.mmc_ext_csd.specs.ExtCsd.{high_speed_at_52_mhz, partition_config}
use Rattle.mmc_card.specs.declared.exchange.Lines.{Lines}
use Rattle.mmc_card.specs.declared.part.Part.{Part}
use Rattle.mmc_card.proofs.Conditions.{by_cond, first_by_cond}
use Rattle.mmc_card.proofs.Responses.{after_response}
use Rattle.mmc_card.proofs.Landing.{at_snoc, landed_size, landed_within, snoc_length}
use Rattle.mmc_card.proofs.SectorLemmas.{by_touch, cond_in_new, cond_in_old, in_cond, maybe_within, old_maybe}
use Rattle.mmc_card.proofs.SectorLemmas.{same_part, touched_by, untouched, within_same}
use Rattle.mmc_card.specs.CardAnswer.{Choice, garbled, left_with, raised, refused, reset, showing}
use Rattle.mmc_card.specs.Blocks.{accepted, can_send, can_accept, fallen_short, programmed, rejected, rested, sent_from}
use Rattle.mmc_card.specs.Blocks.{fallen_early, ignoring, waited}
use Rattle.mmc_card.specs.Card.{Both, Card, First, FromBytes, FromSectors, Held, NoAddress, Source, at_sector, holds}
use Rattle.mmc_card.specs.Card.{is_in, known, landed, stored, unfinished}
use Rattle.mmc_card.specs.Laws.{Carried, WithinOrAccepted, erased_by, erased_by_command, erased_by_held, maybe_erased}
use Rattle.mmc_card.specs.declared.command.Command.{Command}
use Rattle.mmc_card.specs.declared.command.Command.TheVariants.{SdSendOpCond, SendScr, SetBusWidth, AllSendCid, AppCmd}
use Rattle.mmc_card.specs.declared.command.Command.TheVariants.{Erase, EraseEnd, EraseStart, GoIdleState}
use Rattle.mmc_card.specs.declared.command.Command.TheVariants.{ReadMultipleBlock, ReadSingleBlock, SelectCard, SendCsd}
use Rattle.mmc_card.specs.declared.command.Command.TheVariants.{SendExtCsd, SendIfCond, SendOpCond, SendRelativeAddr}
use Rattle.mmc_card.specs.declared.command.Command.TheVariants.{SendStatus, SetBlockCount, SetBlocklen, SetRelativeAddr}
use Rattle.mmc_card.specs.declared.command.Command.TheVariants.{StopTransmission, Switch, SwitchFunc, Unknown}
use Rattle.mmc_card.specs.declared.command.Command.TheVariants.{WriteBlock, WriteMultipleBlock}
use Rattle.mmc_card.specs.Rows.{answered, command_of, leaves_erase, reached, responded, row}
use Rattle.mmc_card.specs.RowsErase.{erase_held, erases, erasing, hold_first, hold_last, holds_address, is_no_range}
use Rattle.mmc_card.specs.RowsErase.{is_trim}
use Rattle.mmc_card.specs.RowsIdentify.{inquired, is_served, may_lag}
use Rattle.mmc_card.specs.RowsSwitch.{access_switched, accessed, part_accessed, switch_row, switched, write_byte}
use Rattle.mmc_card.specs.RowsTransfer.{begun, preset, stopped, transfer_errors, transferred}
use Rattle.mmc_card.specs.Sectors.{Change, IsIn, Sector, Sets, Within, maybe_changed, part_number, touches, value_of}

-- made the same, of the same sizes, and no sector may hold more
pub record Keeps (old new : Card) : Type 0 where
  pub carried : Carried old new
  pub narrows : Within (holds new) (holds old)

-- the same, but that the sectors that are erased may hold the erased values too
pub record Widens (change : Option Change) (old new : Card) : Type 0 where
  pub carried : Carried old new
  pub widens : Within (holds new) (maybe_erased change (holds old))

pub carried_same : (c : Card) → Carried c c
carried_same c = record { made = refl; sizes = λ p. refl }

pub carried_then : {a b c : Card} → Carried a b → Carried b c → Carried a c
carried_then p q = record { made = q.made ∙ p.made; sizes = λ i. q.sizes i ∙ p.sizes i }

pub keeps_same : (c : Card) → Keeps c c
keeps_same c = record { carried = carried_same c; narrows = within_same (holds c) }

pub keeps_then : {a b c : Card} → Keeps a b → Keeps b c → Keeps a c
keeps_then p q = record {
  carried = carried_then p.carried q.carried;
  narrows = λ i s v h. p.narrows i s v (q.narrows i s v h);
}

old_erased : (change : Option Change) (sets : Sets) → Within sets (maybe_erased change sets)
old_erased (Some change) sets = old_maybe change sets
old_erased None sets = within_same sets

erased_within : (change : Option Change) (new old : Sets) → Within new old
    → Within (maybe_erased change new) (maybe_erased change old)
erased_within (Some change) new old within = maybe_within change new old within
erased_within None new old within = within

pub wide : (change : Option Change) (c d : Card) → Keeps c d → Widens change c d
wide change c d k = record {
  carried = k.carried;
  widens = λ i s v h. old_erased change (holds c) i s v (k.narrows i s v h);
}

-- first nothing is widened, then by a change
pub wide_then : (change : Option Change) (a b c : Card) → Keeps a b → Widens change b c → Widens change a c
wide_then change a b c p q = record {
  carried = carried_then p.carried q.carried;
  widens = λ i s v h. erased_within change (holds b) (holds a) p.narrows i s v (q.widens i s v h);
}

same_sizes : (c d : Card) → d.sectors ≡ c.sectors → (p : Part) → length (stored d p) ≡ length (stored c p)
same_sizes c d st p = ap (λ (ss : List (List Sector)). length (slice_index_or ss (part_number p) [])) st

-- sectors as they were, and the same unfinished
plain : (c d : Card) → d.made ≡ c.made → d.sectors ≡ c.sectors → unfinished d ≡ unfinished c → Keeps c d
plain c d m st u = record {
  carried = record { made = m; sizes = same_sizes c d st };
  narrows = λ p s v h. subst
      (λ (ss : List (List Sector)). IsIn
      (cond (touches (unfinished c) p s)
      (value_of (unfinished c) s ∷ at_sector (slice_index_or ss (part_number p) []) s)
      (at_sector (slice_index_or ss (part_number p) []) s))
      v)
      st
      (subst (λ (t : Change). IsIn (cond (touches t p s) (value_of t s ∷ known d p s) (known d p s)) v) u h);
}

-- a transfer is over, and some of it has landed
over : (c d : Card) (lands : ℕ → Bool) → d.made ≡ c.made → d.sectors ≡ landed lands c → d.values ≡ [] → Keeps c d
over c d lands m st none = record {
  carried = record {
    made = m;
    sizes = λ p. ap (λ (ss : List (List Sector)). length (slice_index_or ss (part_number p) [])) st
        ∙ landed_size c lands p;
  };
  narrows = landed_within c d lands st none;
}

-- nothing is unfinished any more, and nothing has landed
cleared : (c d : Card) → d.made ≡ c.made → d.sectors ≡ c.sectors → d.values ≡ [] → Keeps c d
cleared c d m st none = record {
  carried = record { made = m; sizes = same_sizes c d st };
  narrows = λ p s v h.
      elim (in_cond (touches (unfinished d) p s) (value_of (unfinished d) s) (known d p s) v h) [
        | inl t ↦ absurd (untouched (unfinished d) p s none t.0)
        | inr k ↦ cond_in_old (touches (unfinished c) p s) (value_of (unfinished c) s) (known c p s) v
            (subst (λ (ss : List (List Sector)). IsIn (at_sector (slice_index_or ss (part_number p) []) s) v) st k)
      ];
}

-- a change is unfinished now, and nothing of it has landed
begins : (change : Change) (c d : Card) → d.made ≡ c.made → d.sectors ≡ c.sectors → unfinished d ≡ change
    → Widens (Some change) c d
begins change c d m st u = record {
  carried = record { made = m; sizes = same_sizes c d st };
  widens = λ p s v h.
      let e : IsIn (maybe_changed change (known d) p s) v =
      subst (λ (t : Change). IsIn (maybe_changed t (known d) p s) v) u h in
      elim (in_cond (touches change p s) (value_of change s) (known d p s) v e) [
        | inl t ↦ cond_in_new (touches change p s) (value_of change s) (holds c p s) v t.0 t.1
        | inr k ↦ cond_in_old (touches change p s) (value_of change s) (holds c p s) v
            (cond_in_old (touches (unfinished c) p s) (value_of (unfinished c) s) (known c p s) v
            (subst (λ (ss : List (List Sector)). IsIn (at_sector (slice_index_or ss (part_number p) []) s) v) st k))
      ];
}

pub keeps_reset : (lands : ℕ → Bool) (keeps_length : Bool) (c : Card) → Keeps c (reset lands keeps_length c)
keeps_reset lands keeps_length c = over c (reset lands keeps_length c) lands refl refl refl

pub keeps_refused : (c : Card) → Keeps c (refused c)
keeps_refused c = plain c (refused c) refl refl refl

pub keeps_garbled : (keeps : Bool) (c : Card) → Keeps c (garbled keeps c)
keeps_garbled keeps c = plain c (garbled keeps c) refl refl refl

pub keeps_programmed : (lands : ℕ → Bool) (c : Card) → Keeps c (programmed lands c)
keeps_programmed lands c = over c (programmed lands c) lands refl refl refl

pub keeps_fallen_short : (lands : ℕ → Bool) (c : Card) → Keeps c (fallen_short lands c)
keeps_fallen_short lands c = over c (fallen_short lands c) lands refl refl refl

pub keeps_fallen_early : (lands : ℕ → Bool) (c : Card) → Keeps c (fallen_early lands c)
keeps_fallen_early lands c = over c (fallen_early lands c) lands refl refl refl

pub keeps_raised : (bits : ℕ) (c : Card) → Keeps c (raised bits c)
keeps_raised bits c = plain c (raised bits c) refl refl refl

pub keeps_rested : (c : Card) → Keeps c (rested c)
keeps_rested c =
    by_cond (Keeps c) (is_in c.state Prg) (λ _. keeps_programmed (λ i. true) c) (λ _. plain c _ refl refl refl)

pub keeps_slow : (c : Card) → Keeps c (waited c)
keeps_slow c = plain c _ refl refl refl

-- Rows.

keeps_inquired : (is_ready : Bool) (c : Card) → Keeps c (inquired is_ready c).0
keeps_inquired true c = plain c _ refl refl refl
keeps_inquired false c = plain c _ refl refl refl

keeps_transferred : (index errors : ℕ) (c after : Card) → Keeps c after → Keeps c (transferred index errors c after).0
keeps_transferred index errors c after k =
    first_by_cond (Keeps c) (errors == 0) _ _ (λ _. k) (λ _. plain c _ refl refl refl)

keeps_begun : (state : State) (is_single : Bool) (left : Option ℕ) (c : Card) (address : ℕ)
    → Keeps c (begun state is_single left c address)
keeps_begun state is_single left c address = cleared c _ refl refl refl

keeps_stopped : (stays_busy : Bool) (c : Card) → Keeps c (stopped stays_busy c)
keeps_stopped stays_busy c =
    by_cond (Keeps c) (is_in c.state Rcv) (λ _. plain c _ refl refl refl)
    (λ _. by_cond (Keeps c) stays_busy (λ _. plain c _ refl refl refl) (λ _. plain c _ refl refl refl))

keeps_first : (index : ℕ) (c : Card) (address : ℕ) (held : Held) → Keeps c (hold_first index c address held).0
keeps_first index c address NoAddress = plain c _ refl refl refl
keeps_first index c address (First first) = plain c _ refl refl refl
keeps_first index c address (Both first last) = plain c _ refl refl refl

keeps_last : (index : ℕ) (c : Card) (address : ℕ) (held : Held) → Keeps c (hold_last index c address held).0
keeps_last index c address NoAddress = plain c _ refl refl refl
keeps_last index c address (First first) = plain c _ refl refl refl
keeps_last index c address (Both first last) = plain c _ refl refl refl

widens_erase : (c : Card) (argument : ℕ) (held : Held)
    → Widens (erased_by_held c argument held) c (erase_held c argument held).0
widens_erase c argument NoAddress = wide _ c _ (plain c _ refl refl refl)
widens_erase c argument (First first) = wide _ c _ (plain c _ refl refl refl)
widens_erase c argument (Both first last) =
    let change = erasing c (is_trim c argument) first last in
    first_by_cond (Widens (Some change) c) (is_no_range c first last) _ _
    (λ _. wide (Some change) c _ (plain c _ refl refl refl))
    (λ _. begins change c (erases change c) refl refl refl)

-- a card that differs in its setting alone
pub record IsSwitched (c d : Card) : Type 0 where
  pub made : d.made ≡ c.made
  pub sectors : d.sectors ≡ c.sectors
  pub block_length : d.block_length ≡ c.block_length
  pub rca : d.rca ≡ c.rca
  pub erase : d.erase ≡ c.erase
  pub inquiries : d.inquiries ≡ c.inquiries
  pub source : d.source ≡ c.source
  pub erase_group_def : c.erase_group_def ≤ 1 → d.erase_group_def ≤ 1

abbrev pub AreSwitched : Card → Option Card → Type 0
AreSwitched c None = Unit {0}
AreSwitched c (Some d) = IsSwitched c d

accessed_switched : (c : Card) (o : Option Part) → AreSwitched c (accessed c o)
accessed_switched c None = tt
accessed_switched c (Some part) =
    by_cond (AreSwitched c) (length (stored c part) == 0) (λ _. tt)
    (λ _. record {
      made = refl;
      sectors = refl;
      block_length = refl;
      rca = refl;
      erase = refl;
      inquiries = refl;
      source = refl;
      erase_group_def = λ h. h;
    })

access_is_switched : (c : Card) (argument : ℕ) → AreSwitched c (access_switched c argument)
access_is_switched c argument =
    by_cond (AreSwitched c)
    (argument == write_byte 179 (8 * field 7 3 (partition_config c.made.ext_csd) + field 10 8 argument))
    (λ _. accessed_switched c (part_accessed (field 10 8 argument))) (λ _. tt)

is_switched : (c : Card) (argument : ℕ) → AreSwitched c (switched c argument)
is_switched c argument =
    let same : (d : Card) → d.made ≡ c.made → d.sectors ≡ c.sectors → d.block_length ≡ c.block_length → d.rca ≡ c.rca
    → d.erase ≡ c.erase → d.inquiries ≡ c.inquiries → d.source ≡ c.source
    → (c.erase_group_def ≤ 1 → d.erase_group_def ≤ 1) → IsSwitched c d =
    λ d m s b r e a f g. record {
      made = m;
      sectors = s;
      block_length = b;
      rca = r;
      erase = e;
      inquiries = a;
      source = f;
      erase_group_def = g;
    } in
    by_cond (AreSwitched c) (argument == write_byte 175 1)
    (λ _. same _ refl refl refl refl refl refl refl (λ h. omega arith))
    (λ _. by_cond (AreSwitched c) (argument == write_byte 183 2)
    (λ _. same _ refl refl refl refl refl refl refl (λ h. h))
    (λ _. by_cond (AreSwitched c) (argument == write_byte 183 1)
    (λ _. same _ refl refl refl refl refl refl refl (λ h. h))
    (λ _. by_cond (AreSwitched c)
    ((argument == write_byte 185 1) && (high_speed_at_52_mhz c.made.ext_csd == 1))
    (λ _. same _ refl refl refl refl refl refl refl (λ h. h)) (λ _. access_is_switched c argument))))

-- one that fails differs in nothing
pub may_switch : (fails : Bool) (c : Card) (argument : ℕ) → AreSwitched c (if fails then None else switched c argument)
may_switch true c argument = tt
may_switch false c argument = is_switched c argument

keeps_switch : (late : Bool) (c : Card) (o : Option Card) → AreSwitched c o → Keeps c (switch_row late c o).0
keeps_switch late c None h = cleared c _ refl refl refl
keeps_switch late c (Some d) h = cleared c _ h.made h.sectors refl

widens_row : (choice : Choice) (command : Command) (c : Card) (index argument : ℕ)
    → Widens (erased_by_command command c argument) c (row choice command c index argument).0
widens_row choice GoIdleState c index argument = wide _ c _ (keeps_reset choice.lands choice.keeps_length c)
widens_row choice SendOpCond c index argument = wide _ c _ (keeps_inquired (not choice.is_slow) c)
widens_row choice SdSendOpCond c index argument =
    wide _ c _ (keeps_inquired (is_served c argument && not choice.is_slow) c)
widens_row choice AllSendCid c index argument = wide _ c _ (plain c _ refl refl refl)
widens_row choice SendRelativeAddr c index argument = wide _ c _ (plain c _ refl refl refl)
widens_row choice SetRelativeAddr c index argument = wide _ c _ (plain c _ refl refl refl)
widens_row choice SelectCard c index argument = wide _ c _ (plain c _ refl refl refl)
widens_row choice SendIfCond c index argument = wide _ c _ (plain c _ refl refl refl)
widens_row choice SendExtCsd c index argument = wide _ c _ (plain c _ refl refl refl)
widens_row choice SendCsd c index argument = wide _ c _ (plain c _ refl refl refl)
widens_row choice StopTransmission c index argument =
    wide _ c _
    (first_by_cond (Keeps c) (is_in c.state Tran && not choice.answers_stop) _ _ (λ _. plain c _ refl refl refl)
    (λ _. keeps_stopped choice.stays_busy c))
widens_row choice SendStatus c index argument =
    wide _ c _
    (first_by_cond (Keeps c) (may_lag c && choice.is_behind) _ _ (λ _. plain c _ refl refl refl)
    (λ _. plain c _ refl refl refl))
widens_row choice SetBlocklen c index argument =
    wide _ c _
    (first_by_cond (Keeps c) (argument == 512) _ _ (λ _. plain c _ refl refl refl) (λ _. plain c _ refl refl refl))
widens_row choice ReadSingleBlock c index argument =
    wide _ c _ (keeps_transferred 17 (transfer_errors false c argument) c _ (keeps_begun Data true (Some 1) c argument))
widens_row choice ReadMultipleBlock c index argument =
    wide _ c _
    (keeps_transferred 18 (transfer_errors false c argument) c _ (keeps_begun Data false (preset c) c argument))
widens_row choice SetBlockCount c index argument = wide _ c _ (plain c _ refl refl refl)
widens_row choice WriteBlock c index argument =
    wide _ c _ (keeps_transferred 24 (transfer_errors true c argument) c _ (keeps_begun Rcv true (Some 1) c argument))
widens_row choice WriteMultipleBlock c index argument =
    wide _ c _
    (keeps_transferred 25 (transfer_errors true c argument) c _ (keeps_begun Rcv false (preset c) c argument))
widens_row choice EraseStart c index argument = wide _ c _ (keeps_first index c argument c.erase)
widens_row choice EraseEnd c index argument = wide _ c _ (keeps_last index c argument c.erase)
widens_row choice Erase c index argument = widens_erase c argument c.erase
widens_row choice Switch c index argument =
    wide _ c _ (keeps_switch choice.says_late c _ (may_switch choice.fails_switch c argument))
widens_row choice SwitchFunc c index argument = wide _ c _ (plain c _ refl refl refl)
widens_row choice SetBusWidth c index argument = wide _ c _ (plain c _ refl refl refl)
widens_row choice SendScr c index argument = wide _ c _ (plain c _ refl refl refl)
widens_row choice AppCmd c index argument = wide _ c _ (plain c _ refl refl refl)
widens_row choice Unknown c index argument = wide _ c _ (plain c _ refl refl refl)

pub keeps_reached : (choice : Choice) (command : Command) (c : Card) → Keeps c (reached choice command c)
keeps_reached choice command c =
    by_cond (Keeps c) (leaves_erase command) (λ _. keeps_same c)
    (λ _. by_cond (Keeps c) (holds_address c.erase)
    (λ _. by_cond (Keeps c) choice.drops_quietly (λ _. plain c _ refl refl refl) (λ _. plain c _ refl refl refl)) (λ _. keeps_same c))

-- only CMD38 may erase, and it is reached as it is
same_erased : (choice : Choice) (command : Command) (c : Card) (argument : ℕ)
    → erased_by_command command (reached choice command c) argument ≡ erased_by_command command c argument
same_erased choice Erase c argument = refl
same_erased choice _ c argument = refl

widens_reached : (choice : Choice) (command : Command) (c : Card) (index argument : ℕ)
    → Widens (erased_by_command command c argument) c (row choice command (reached choice command c) index argument).0
widens_reached choice command c index argument =
    wide_then (erased_by_command command c argument) c (reached choice command c) _ (keeps_reached choice command c)
    (subst
    (λ (t : Option Change). Widens t (reached choice command c)
    (row choice command (reached choice command c) index argument).0)
    (same_erased choice command c argument)
    (widens_row choice command (reached choice command c) index argument))

pub widens_responded : (choice : Choice) (command : Command) (c : Card) (index argument : ℕ)
    → Widens (erased_by_command command c argument) c (responded choice command c index argument).0
widens_responded choice command c index argument =
    let change = erased_by_command command c argument in
    after_response (Widens change c) choice command c index argument (wide change c c (keeps_same c))
    (λ _. widens_reached choice command c index argument)
    (wide change c _ (keeps_then (keeps_reached choice command c) (plain (reached choice command c) _ refl refl refl)))
    (wide change c _ (keeps_then (keeps_reached choice command c) (keeps_refused (reached choice command c))))

pub widens_answered : (choice : Choice) (c : Card) (sent : Option (ℕ × ℕ))
    → Widens (erased_by c sent) c (answered choice c sent).0
widens_answered choice c (Some command) =
    widens_responded choice (command_of c.made.kind c.app command.0) c command.0 command.1
widens_answered choice c None = wide _ c _ (keeps_garbled choice.keeps_count c)

-- what is to be shown erases nothing
held_showing : (left found : ℕ) (c : Card) (argument : ℕ) (held : Held)
    → erased_by_held (showing left found c) argument held ≡ erased_by_held c argument held
held_showing left found c argument (Both first last) = refl
held_showing left found c argument _ = refl

command_showing : (left found : ℕ) (command : Command) (c : Card) (argument : ℕ)
    → erased_by_command command (showing left found c) argument ≡ erased_by_command command c argument
command_showing left found Erase c argument = held_showing left found c argument c.erase
command_showing left found _ c argument = refl

erased_showing : (left found : ℕ) (c : Card) (sent : Option (ℕ × ℕ)) → erased_by (showing left found c) sent ≡ erased_by c sent
erased_showing left found c (Some command) = command_showing left found (command_of c.made.kind c.app command.0) c command.1
erased_showing left found c None = refl

pub widens_showing : (choice : Choice) (left found : ℕ) (c : Card) (sent : Option (ℕ × ℕ))
    → Widens (erased_by c sent) c (answered choice (showing left found c) sent).0
widens_showing choice left found c sent =
    let met = showing left found c in
    subst (λ t. Widens t c (answered choice met sent).0) (erased_showing left found c sent)
    (wide_then _ c met _ (plain c met refl refl refl) (widens_answered choice met sent))

-- Blocks.

pub keeps_sent_from : (source : Source) (choice : Choice) (c : Card) → Keeps c (sent_from source choice c)
keeps_sent_from FromSectors choice c = plain c _ refl refl refl
keeps_sent_from (FromBytes bytes timing) choice c = plain c _ refl refl refl

pub keeps_ignoring : (ignores : Bool) (c : Card) → Keeps c (ignoring ignores c)
keeps_ignoring ignores c = by_cond (Keeps c) ignores (λ _. plain c _ refl refl refl) (λ _. keeps_same c)

pub keeps_rejected : (ignores is_busy : Bool) (c : Card) → Keeps c (rejected ignores is_busy c)
keeps_rejected ignores is_busy c =
    by_cond (Keeps c) ignores (λ _. plain c _ refl refl refl)
    (λ _. by_cond (Keeps c) c.is_single
    (λ _. by_cond (Keeps c) is_busy (λ _. cleared c _ refl refl refl) (λ _. cleared c _ refl refl refl)) (λ _. keeps_same c))

-- a block that the card accepted
pub accepted_adds : (block : Sector) (c : Card) → is_in c.state Rcv ≡ true → WithinOrAccepted c block (accepted block c)
accepted_adds block c rcv p s v h =
    let d = accepted block c in
    let was = unfinished c in
    elim (in_cond (touches (unfinished d) p s) (value_of (unfinished d) s) (known c p s) v h) [
      | inl t ↦
          (let b = by_touch (part_number c.part) (part_number p) c.start s (length (c.values ++ block ∷ [])) t.0 in
          let n = snoc_length c.values block in
          let l = b.1 in
          let m = b.2 in
          elim (at_snoc c.values block (s - c.start) (omega (arith, l, m, n))) [
            | inl old ↦
                (let o = old.0 in
                inl (cond_in_new (touches was p s) (value_of was s) (known c p s) v
                (touched_by (part_number c.part) (part_number p) c.start s (length c.values) b.0 l
                (omega (arith, o, l)))
                (t.1 ∙ old.1)))
            | inr new ↦
                (let o = new.0 in
                inr (record {
                  receives = rcv;
                  here = same_part c.part p b.0;
                  next = omega (arith, o, l);
                  offered = t.1 ∙ new.1;
                }))
          ])
      | inr k ↦ inl (cond_in_old (touches was p s) (value_of was s) (known c p s) v k)
    ]

pub carried_accepted : (block : Sector) (c : Card) → Carried c (accepted block c)
carried_accepted block c = record { made = refl; sizes = λ p. refl }

pub both : (a b : Bool) → (a && b) ≡ true → (a ≡ true) × (b ≡ true)
both true b h = (refl, h)
both false b h = cc

pub accepts_in_rcv : (lines : Lines) (c : Card) → can_accept lines c ≡ true → is_in c.state Rcv ≡ true
accepts_in_rcv lines c h = (both (is_in c.state Rcv) _ h).0

pub sends_data : (lines : Lines) (size : ℕ) (c : Card) → can_send lines size c ≡ true → is_in c.state Data ≡ true
sends_data lines size c h = (both (is_in c.state Data) _ h).0
