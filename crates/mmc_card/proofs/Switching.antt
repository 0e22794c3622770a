-- A switch of the partition leaves a card standing, in the old partition or in the new one.
use Rattle.std.proofs.Common.{◌*◌, ◌+◌, ◌<◌, ◌∙◌, ◌≡◌, ◌≤◌, ◌⊎◌, Bool, List, ap, arith, false, inl, inr, length, refl}
use Rattle.std.proofs.Common.{subst, sym, true, ℕ}
use Rattle.std.specs.Prelude.{◌&&◌, ◌==◌, None, Option, Some, if◌then◌else◌}
use Rattle.std.proofs.lemmas.Bool.{eqb-true}
use Rattle.mmc_frame.specs.Field.{field}
use Rattle.mmc_frame.specs.Frame.{command_in}
use Rattle.mmc_frame.specs.declared.card_state.State.TheVariants.{Tran}
use Rattle.mmc_frame.specs.declared.kind.Kind.{Kind}
use Rattle.mmc_frame.specs.declared.kind.Kind.TheVariants.{Mmc}
use Rattle.mmc_ext_csd.specs.ExtCsd.{high_speed_at_52_mhz, partition_config}
use Rattle.mmc_card.specs.declared.exchange.Reply.{Reply}
use Rattle.mmc_card.specs.declared.part.Part.{Part}
use Rattle.mmc_card.specs.declared.part.Part.TheVariants.{Boot1, Boot2, Gp1, Gp2, Gp3, Gp4, User}
use Rattle.mmc_card.proofs.ByteLemmas.{access_below}
use Rattle.mmc_card.proofs.CardRows.{legal_reached}
use Rattle.mmc_card.proofs.Conditions.{by_cond, first_by_cond}
use Rattle.mmc_card.proofs.Standing.{stands_garbled, stands_showing, stands_quiet, stands_raised, stands_reached, stands_refused, stands_reset, stands_shown, up_in}
use Rattle.mmc_card.proofs.Steps.{after_command}
use Rattle.mmc_card.specs.CardAnswer.{Choice, showing}
use Rattle.mmc_card.specs.Card.{Card, is_in, stored}
use Rattle.mmc_card.specs.Faults.{MeetsCommand}
use Rattle.mmc_card.specs.Laws.{Setting, Stands, StandsIn, SwitchesTo}
use Rattle.mmc_card.specs.Made.{Made}
use Rattle.mmc_card.specs.declared.command.Command.TheVariants.{Switch}
use Rattle.mmc_card.specs.Rows.{answered, command_of, found, is_legal, reached, respond, responded}
use Rattle.mmc_card.specs.RowsSwitch.{access_number, accessed, part_accessed, partition_config_for, programs_switch}
use Rattle.mmc_card.specs.RowsErase.{holds_address}
use Rattle.mmc_card.specs.RowsSwitch.{switch_row, switched, write_byte}
use Rattle.mmc_card.specs.BusView.{BusView}

-- What a switch of the partition makes of a card: nothing, or the partition.
abbrev IsAccess : Part → Card → Option Card → Type 0
IsAccess part c None = Unit {0}
IsAccess part c (Some d) = d ≡ record c { part = part }

part_back : (part : Part) → part_accessed (access_number part) ≡ Some part
part_back User = refl
part_back Boot1 = refl
part_back Boot2 = refl
part_back Gp1 = refl
part_back Gp2 = refl
part_back Gp3 = refl
part_back Gp4 = refl

low_field : (high access argument : ℕ) → access < 8 → argument ≡ write_byte 179 (8 * high + access) → high < 32
    → field 10 8 argument ≡ access
low_field high access argument below is small = omega arith

other_byte : (index value argument other written : ℕ) → argument ≡ write_byte 179 written
    → (argument == write_byte index value) ≡ true → index * 256 + value < 179 * 256 → ⊥
other_byte index value argument other written is same below =
    let e = eqb-true argument (write_byte index value) same in omega (arith, e, is, below)

past_byte : (index value argument written : ℕ) → argument ≡ write_byte 179 written → written < 256
    → (argument == write_byte index value) ≡ true → 180 ≤ index → ⊥
past_byte index value argument written is small same above =
    let e = eqb-true argument (write_byte index value) same in omega (arith, e, is, small, above)

first_true : (a b : Bool) → (a && b) ≡ true → a ≡ true
first_true true b h = refl
first_true false b h = cc

is_accessed : (part : Part) (c : Card) (o : Option Part) → o ≡ Some part → IsAccess part c (accessed c o)
is_accessed part c o e =
    subst (λ x. IsAccess part c (accessed c x)) (sym e)
    (by_cond (IsAccess part c) (length (stored c part) == 0) (λ _. tt) (λ _. refl))

is_switch : (part : Part) (c : Card) (argument : ℕ) → argument ≡ write_byte 179 (partition_config_for c.made part)
    → IsAccess part c (switched c argument)
is_switch part c argument is =
    let high = field 7 3 (partition_config c.made.ext_csd) in
    let small : high < 32 = omega arith in
    let is_byte : partition_config_for c.made part < 256 = omega (arith, access_below part, small) in
    by_cond (IsAccess part c) (argument == write_byte 175 1)
    (λ t. absurd (other_byte 175 1 argument 0 (partition_config_for c.made part) is t (omega arith)))
    (λ _. by_cond (IsAccess part c) (argument == write_byte 183 2)
    (λ t. absurd (past_byte 183 2 argument (partition_config_for c.made part) is is_byte t (omega arith)))
    (λ _. by_cond (IsAccess part c) (argument == write_byte 183 1)
    (λ t. absurd (past_byte 183 1 argument (partition_config_for c.made part) is is_byte t (omega arith)))
    (λ _. by_cond (IsAccess part c)
    ((argument == write_byte 185 1) && (high_speed_at_52_mhz c.made.ext_csd == 1))
    (λ t. absurd (past_byte 185 1 argument (partition_config_for c.made part) is is_byte
    (first_true (argument == write_byte 185 1) _ t) (omega arith)))
    (λ _. by_cond (IsAccess part c)
    (argument == write_byte 179 (8 * high + field 10 8 argument))
    (λ _. is_accessed part c (part_accessed (field 10 8 argument))
    (ap part_accessed (low_field high (access_number part) argument (access_below part) is small)
    ∙ part_back part))
    (λ _. tt)))))

may_fail : (part : Part) (c : Card) (argument : ℕ) (fails : Bool)
    → argument ≡ write_byte 179 (partition_config_for c.made part)
    → IsAccess part c (if fails then None else switched c argument)
may_fail part c argument true is = tt
may_fail part c argument false is = is_switch part c argument is

-- a card that stands as before, but that this partition may be the one that is accessed
abbrev Switched : Part → Setting → Card → Type 0
Switched part s d = Stands s d ⊎ Stands (record s { part = part }) d

programs_there : (s : Setting) (part : Part) (c : Card) → is_in c.state Tran ≡ true → Stands s c
    → Stands (record s { part = part }) (programs_switch (record c { part = part }))
programs_there s part c tran h = record {
  selected = λ _. ap (λ (x : Setting). record x { part = part }) (h.selected (up_in c Tran tran refl));
  sends = λ e. cc;
  reset = λ e. cc;
}

switch_stands : (s : Setting) (part : Part) (late : Bool) (c : Card) (o : Option Card) → IsAccess part c o
    → is_in c.state Tran ≡ true → Stands s c → Switched part s (switch_row late c o).0
switch_stands s part late c None is tran h = inl (stands_quiet s c _ refl refl (up_in c Tran tran refl) refl h)
switch_stands s part late c (Some d) is tran h =
    inr (subst (λ x. Stands (record s { part = part }) (programs_switch x)) (sym is) (programs_there s part c tran h))

same_made : (choice : Choice) (c : Card) → (reached choice Switch c).made ≡ c.made
same_made choice c =
    by_cond (λ (d : Card). d.made ≡ c.made) (holds_address c.erase)
    (λ _. by_cond (λ (d : Card). d.made ≡ c.made) choice.drops_quietly (λ _. refl) (λ _. refl)) (λ _. refl)

switch_responds : (s : Setting) (part : Part) (choice : Choice) (c : Card) (argument : ℕ)
    → argument ≡ write_byte 179 (partition_config_for c.made part) → Stands s c
    → Switched part s (responded choice Switch c 6 argument).0
switch_responds s part choice c argument is h =
    let d = reached choice Switch c in
    let held = stands_reached s choice Switch c h in
    first_by_cond (Switched part s) (is_legal Switch c) _ _
    (λ l. first_by_cond (Switched part s) (found choice Switch == 0) _ _
    (λ _. switch_stands s part choice.says_late d _
    (may_fail part d argument choice.fails_switch
    (is ∙ ap (λ (m : Made). write_byte 179 (partition_config_for m part)) (sym (same_made choice c))))
    (legal_reached choice Switch c ∙ l) held)
    (λ _. inl (stands_shown s d held)))
    (λ _. inl (stands_refused s d held))

switch_answers : (s : Setting) (part : Part) (choice : Choice) (kind : Kind) (c : Card) (argument : ℕ) → kind ≡ Mmc
    → argument ≡ write_byte 179 (partition_config_for c.made part) → Stands s c
    → Switched part s (responded choice (command_of kind c.app 6) c 6 argument).0
switch_answers s part choice kind c argument mmc is h =
    subst (λ k. Switched part s (responded choice (command_of k c.app 6) c 6 argument).0) (sym mmc)
    (switch_responds s part choice c argument is h)

pub command_switches : (part : Part) (old : BusView) (frame : List ℕ) (index argument : ℕ) (reply : Reply)
    (new : BusView) → SwitchesTo part old.card index argument → command_in frame ≡ Some (index, argument)
    → MeetsCommand old frame reply new → StandsIn part old.card new.card
command_switches part old frame index argument reply new switch command step s h =
    let answers : (choice : Choice) (card : Card) → card.made ≡ old.card.made → Stands s card
    → Switched part s (answered choice card (command_in frame)).0 =
    λ choice card made h. subst (λ x. Switched part s (answered choice card x).0) (sym command)
    (subst (λ i. Switched part s (respond choice card i argument).0) (sym switch.switch)
    (switch_answers s part choice card.made.kind card argument (ap (λ (m : Made). m.kind) made ∙ switch.mmc)
    (switch.access ∙ ap (λ (m : Made). write_byte 179 (partition_config_for m part)) (sym made)) h)) in
    after_command (Switched part s) old frame reply new (inl h) (λ choice. answers choice old.card refl h)
    (λ choice left found _ _. answers choice (showing left found old.card) refl (stands_showing s left found old.card h))
    (λ keeps. inl (stands_garbled s keeps old.card h))
    (λ bits card _ k. elim k [ inl stays ↦ inl (stands_raised s bits card stays) | inr moves ↦ inr (stands_raised _ bits card moves) ])
    (λ lands keeps card _. inl (stands_reset s lands keeps card)) step
