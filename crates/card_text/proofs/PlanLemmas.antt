-- The faults that good lines plan can all be planned.
use Rattle.std.proofs.Common.{◌≡◌, ℕ, ◌-◌, ◌<◌, ◌^◌, List, [], ◌∷◌, Option, None, Some, Bool, true, false, cond, eqb, map}
use Rattle.std.proofs.Common.{refl, subst, arith, rules}
use Rattle.std.specs.Prelude.{IfSome, nat_lt, option_map}
use Rattle.std.specs.List.{AllByRecursion, IsDistinct}
use Rattle.std.proofs.lemmas.Bool.{ltb-true}
use Rattle.std.proofs.lemmas.Bool.Decides.{nat_tests}
use Rattle.std.proofs.lemmas.List.Elements.{All-from_recursion}
use Rattle.mmc_card_sim.specs.declared.fault.Fault.{Fault as CardFault}
use Rattle.mmc_frame.specs.declared.kind.Kind.{Kind as CardKind}
use Rattle.card_text.specs.declared.card_line.CardLine.{CardLine}
use Rattle.card_text.specs.declared.card_line.CardLine.TheVariants.{Fault}
use Rattle.card_text.specs.declared.text_line.Line.{Line}
use Rattle.card_text.specs.declared.text_line.Line.TheVariants.{Bad, Says, Skipped}
use Rattle.card_text.specs.CardFile.{AreCardLines, card_lines_in, plan_of}
use Rattle.card_text.specs.CardLines.{byte_by, card_line_of, card_line_of_fields, ext_line_of, planned_by, fault_line_of}
use Rattle.card_text.specs.CardLines.{free_line_of, late_line_of, line_of_key, repeats, sd_line_of, value_line_of}
use Rattle.card_text.specs.FaultTexts.{fault_of}
use Rattle.card_text.specs.Numbers.{byte_of, number_of}
use Rattle.card_text.specs.Parts.{parts}
use Rattle.card_text.specs.Planning.{CanBePlanned, PlannedFault}
use Rattle.card_text.specs.TextLines.{is_skipped, line_by, said_in}

-- ---- for different exchanges

eqb_sym_false : (a b : ℕ) → eqb a b ≡ false → eqb b a ≡ false
eqb_sym_false a b h = grind (arith, nat_tests, h)

not_again : (exchange : ℕ) (fault : CardFault) (ls : List CardLine)
    → AllByRecursion (λ l. repeats l (Fault exchange fault) ≡ false) ls
    → AllByRecursion (λ e. eqb exchange e ≡ false) (map (λ p. p.0) (plan_of ls))
unfolding plan_of
not_again exchange fault [] once = tt
not_again exchange fault (Fault other another ∷ ls) once =
    (eqb_sym_false other exchange once.0, not_again exchange fault ls once.1)
not_again exchange fault (l ∷ ls) once = not_again exchange fault ls once.1

different_exchanges : (ls : List CardLine) → IsDistinct (λ above line. repeats line above) ls
    → IsDistinct (λ e other. eqb e other) (map (λ p. p.0) (plan_of ls))
unfolding plan_of IsDistinct
different_exchanges [] once = tt
different_exchanges (Fault exchange fault ∷ ls) once =
    (not_again exchange fault ls once.0, different_exchanges ls once.1)
different_exchanges (l ∷ ls) once = different_exchanges ls once.1

-- ---- none for the number at which the count stays

abbrev IsEarly : CardLine → Type 0
IsEarly (Fault exchange fault) = exchange < 2 ^ 64 - 1
IsEarly l = Unit {0}

-- a record, so that the line is found from it
record EarlyLine (said : Option CardLine) : Type 0 where
  early : IfSome said IsEarly

nothing : EarlyLine None
nothing = record { early = tt }

abbrev EarlyLines : Option (List CardLine) → Type 0
EarlyLines said = IfSome said (AllByRecursion IsEarly)

by_if : (b : Bool) (x y : Option CardLine) → EarlyLine x → EarlyLine y → EarlyLine (cond b x y)
by_if true x y h k = h
by_if false x y h k = k

by_map : {A : Type 0} (f : A → CardLine) (o : Option A) → ((a : A) → IsEarly (f a)) → EarlyLine (option_map f o)
by_map f None h = nothing
by_map f (Some a) h = record { early = h a }

early_sd : (key text : List ℕ) → EarlyLine (sd_line_of key text)
unfolding sd_line_of
early_sd key text = search (rules, by_if, by_map, nothing) depth 17

early_late : (key text : List ℕ) → EarlyLine (late_line_of key text)
unfolding late_line_of
early_late key text = search (rules, by_if, by_map, early_sd) depth 17

early_free : (key text : List ℕ) → EarlyLine (free_line_of key text)
unfolding free_line_of
early_free key text = search (rules, by_if, by_map, early_late)

early_key : (key text : List ℕ) → EarlyLine (line_of_key key text)
unfolding line_of_key
early_key key text = search (rules, by_if, by_map, early_free) depth 24

early_byte : (place value : Option ℕ) → EarlyLine (byte_by place value)
early_byte None None = nothing
early_byte None (Some value) = nothing
early_byte (Some place) None = nothing
early_byte (Some place) (Some value) = by_if (nat_lt place 512) _ _ (record { early = tt }) nothing

early_test : (exchange : ℕ) (fault : CardFault) (b : Bool) → nat_lt exchange (2 ^ 64 - 1) ≡ b
    → EarlyLine (cond b (Some (Fault exchange fault)) None)
early_test exchange fault true is = record { early = ltb-true exchange (2 ^ 64 - 1) is }
early_test exchange fault false is = nothing

early_fault : (exchange : Option ℕ) (fault : Option CardFault) → EarlyLine (planned_by exchange fault)
early_fault None None = nothing
early_fault None (Some fault) = nothing
early_fault (Some exchange) None = nothing
early_fault (Some exchange) (Some fault) = early_test exchange fault _ refl

early_value : (key value : List ℕ) (others : List (List ℕ)) → EarlyLine (value_line_of key value others)
unfolding value_line_of ext_line_of
early_value key value [] = early_key key value
early_value key place (value ∷ []) = by_if _ _ _ (early_byte (number_of place) (byte_of value)) nothing
early_value key value (a ∷ b ∷ others) = nothing

early_fields : (fields : List (List ℕ)) → EarlyLine (card_line_of_fields fields)
unfolding card_line_of_fields fault_line_of
early_fields [] = nothing
early_fields (key ∷ []) = nothing
early_fields (key ∷ value ∷ others) = by_if _ _ _ (early_fault (number_of value) (fault_of others)) (early_value key value others)

abbrev EarlySaid : Line CardLine → Type 0
EarlySaid (Says l) = IsEarly l
EarlySaid line = Unit {0}

one_line : (said : Option CardLine) → EarlyLine said → EarlySaid (line_by said)
one_line None h = tt
one_line (Some l) h = h.early

skipped_or : (b : Bool) (line : Line CardLine) → EarlySaid line → EarlySaid (cond b Skipped line)
skipped_or true line h = tt
skipped_or false line h = h

early_line : (line : List ℕ) → EarlySaid (card_line_of line)
unfolding card_line_of
early_line line = skipped_or (is_skipped line) _ (one_line _ (early_fields (parts 32 line)))

early_front : (l : CardLine) (others : Option (List CardLine)) → IsEarly l → EarlyLines others
    → EarlyLines (option_map (λ all. l ∷ all) others)
early_front l None h k = tt
early_front l (Some others) h k = (h, k)

one_more : (line : Line CardLine) (others : List (Line CardLine)) → EarlySaid line → EarlyLines (said_in others)
    → EarlyLines (said_in (line ∷ others))
unfolding said_in
one_more Bad others h k = tt
one_more Skipped others h k = k
one_more (Says l) others h k = early_front l (said_in others) h k

early_lines : (all : List (List ℕ)) → EarlyLines (card_lines_in all)
unfolding card_lines_in said_in
early_lines [] = tt
early_lines (line ∷ others) =
    one_more (card_line_of line) (map card_line_of others) (early_line line) (early_lines others)

early_plan : (ls : List CardLine) → AllByRecursion IsEarly ls
    → AllByRecursion (λ (p : PlannedFault). p.0 < 2 ^ 64 - 1) (plan_of ls)
unfolding plan_of
early_plan [] h = tt
early_plan (Fault exchange fault ∷ ls) h = (h.0, early_plan ls h.1)
early_plan (l ∷ ls) h = early_plan ls h.1

-- ---- all of it

pub can_be_planned : (kind : Option CardKind) (all : List (List ℕ)) (ls : List CardLine) → AreCardLines kind all ls
    → CanBePlanned (plan_of ls)
can_be_planned kind all ls good = record {
  few = good.together.few;
  different = different_exchanges ls good.together.once;
  early =
      All-from_recursion (λ p. p.0 < 2 ^ 64 - 1) (plan_of ls)
      (early_plan ls (subst EarlyLines good.said (early_lines all)));
}
