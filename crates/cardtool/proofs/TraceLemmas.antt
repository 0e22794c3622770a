-- The trace after a script that was served.
use Rattle.std.proofs.Common.{◌≡◌, ◌≤◌, ◌-◌, ℕ, length, length-drop, List, [], ◌∷◌, ◌++◌, Option, None, Some}
use Rattle.std.proofs.Common.{Result, Ok, Err, sym, refl, subst, arith, append-nil}
use Rattle.std.specs.Prelude.{IsErrAnd, min}
use Rattle.std.specs.Io.KnownBytes.{Appends}
use Rattle.std.specs.List.{All}
use Rattle.std.proofs.lemmas.List.Elements.{All-nil}
use Rattle.text_out.specs.Writing.{AppendsFront, Writes}
use Rattle.text_out.proofs.WritingLemmas.{appends_more, front_after, front_before}
use Rattle.mmc_card.specs.declared.exchange.Exchange.{Exchange}
use Rattle.mmc_card.specs.Made.{Made}
use Rattle.mmc_card.specs.declared.exchange.Lines.{Lines}
use Rattle.mmc_card.specs.Sectors.{Sets}
use Rattle.mmc_bus.specs.Trace.{HasItsFrame, last_of}
use Rattle.card_text.specs.declared.event.ScriptEvent.{ScriptEvent}
use Rattle.card_served.specs.declared.fault.ServeFault.{ServeFault}
use Rattle.card_served.specs.declared.fault.ServeFault.TheVariants.{Locked, NoCard, NoMemory, Unsupported, Voltage, Write}
use Rattle.cardtool.specs.Serving.{texts}
use Rattle.cardtool.specs.Whole.{IsServed, IsTraceAfter, ended_by, trace_text}

-- nothing stood after the text
bare : (old new : Option (List ℕ)) (text after : List ℕ) → after ≡ [] → Appends old new (text ++ after)
    → Appends old new text
bare old new text after none wrote =
    subst (Appends old new) (append-nil text) (subst (λ t. Appends old new (text ++ t)) none wrote)

-- the trace went out after the answers, or the writer failed within it
pub with_trace : {E : Type 0} (limits : Lines) (made : Made) (before later : Sets) (fell : ℕ) (script : List ScriptEvent) (n : ℕ)
    (exchanges : List Exchange) (start old new : Option (List ℕ)) (status : ℕ) (r : Result Unit E)
    → length exchanges ≤ n → All HasItsFrame exchanges
    → IsServed limits made before later fell script None start old (Ok status) → Writes old new r (trace_text exchanges)
    → IsServed limits made before later fell script (Some n) start new (ended_by status r)
with_trace limits made before later fell script n exchanges start old new status (Ok x) few framed s wrote =
    let text = texts s.events s.replies in
    record {
      info = s.info;
      of_card = s.of_card;
      events = s.events;
      replies = s.replies;
      execution = s.execution;
      text_after = trace_text exchanges;
      traced = record { exchanges = exchanges; few = few; framed = framed; text_is = refl };
      printed = appends_more start old new text (trace_text exchanges)
          (bare start old text s.text_after s.traced s.printed) wrote;
      status_is = s.status_is;
    }
with_trace limits made before later fell script n exchanges start old new status (Err e) few framed s wrote =
    let text = texts s.events s.replies in
    record {
      info = s.info;
      of_card = s.of_card;
      events = s.events;
      replies = s.replies;
      left = [];
      execution = s.execution;
      text_after = trace_text exchanges;
      traced = record { exchanges = exchanges; few = few; framed = framed; text_is = refl };
      printed = front_after start old new text (trace_text exchanges)
          (bare start old text s.text_after s.traced s.printed) wrote;
    }

-- as many as were asked for at most
pub kept_few : (n : ℕ) (exchanges : List Exchange) → length (last_of n exchanges) ≤ n
kept_few n exchanges = let left = length-drop (length exchanges - n) exchanges in omega (arith, left)

pub kept_count : (n : ℕ) (exchanges : List Exchange) → min (length exchanges) n ≡ length (last_of n exchanges)
kept_count n exchanges = let left = length-drop (length exchanges - n) exchanges in omega (arith, left)

-- a prefix of the text of answers and what stands after them where a trace was asked for
record FrontWithTrace (n : ℕ) (left : List ScriptEvent) (old new : Option (List ℕ)) (text : List ℕ) : Type 0 where
  text_after : List ℕ
  traced : IsTraceAfter (Some n) left text_after
  printed : AppendsFront old new (text ++ text_after)

-- a prefix of the answers' text is a prefix of what is printed with a trace, too
front_with_trace : (n : ℕ) (left : List ScriptEvent) (old new : Option (List ℕ)) (text after : List ℕ)
    → after ≡ [] → AppendsFront old new (text ++ after) → FrontWithTrace n left old new text
front_with_trace n [] old new text after none front =
    let same = subst (λ t. AppendsFront old new (text ++ t)) none front in
    record {
      text_after = trace_text [];
      traced = record { exchanges = []; few = omega arith; framed = All-nil HasItsFrame; text_is = refl };
      printed = front_before old new text (trace_text []) (subst (AppendsFront old new) (append-nil text) same);
    }
front_with_trace n (e ∷ left) old new text after none front =
    record { text_after = after; traced = none; printed = front }

fault_with_trace : (limits : Lines) (made : Made) (before later : Sets) (fell : ℕ) (script : List ScriptEvent) (n : ℕ)
    (old new : Option (List ℕ)) (fault : ServeFault)
    → IsServed limits made before later fell script None old new (Err fault)
    → IsServed limits made before later fell script (Some n) old new (Err fault)
fault_with_trace limits made before later fell script n old new NoMemory served = served
fault_with_trace limits made before later fell script n old new Write s =
    let front = front_with_trace n s.left old new (texts s.events s.replies) s.text_after s.traced s.printed in
    record {
      info = s.info;
      of_card = s.of_card;
      events = s.events;
      replies = s.replies;
      left = s.left;
      execution = s.execution;
      text_after = front.text_after;
      traced = front.traced;
      printed = front.printed;
    }
fault_with_trace limits made before later fell script n old new NoCard unopened = unopened
fault_with_trace limits made before later fell script n old new Voltage unopened = unopened
fault_with_trace limits made before later fell script n old new Unsupported unopened = unopened
fault_with_trace limits made before later fell script n old new Locked unopened = unopened
fault_with_trace limits made before later fell script n old new fault served = absurd served

-- the fault is handed on
pub handed_on : (limits : Lines) (made : Made) (before later : Sets) (fell : ℕ) (script : List ScriptEvent) (n : ℕ)
    (old new : Option (List ℕ)) (fault : ServeFault) (r : Result ℕ ServeFault) → IsErrAnd r (λ e. e ≡ fault)
    → IsServed limits made before later fell script None old new (Err fault)
    → IsServed limits made before later fell script (Some n) old new r
handed_on limits made before later fell script n old new fault (Ok status) same served = absurd same
handed_on limits made before later fell script n old new fault (Err e) same served =
    subst (λ f. IsServed limits made before later fell script (Some n) old new (Err f)) (sym same)
    (fault_with_trace limits made before later fell script n old new fault served)
