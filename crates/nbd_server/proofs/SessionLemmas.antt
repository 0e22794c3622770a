-- Requests that are read and served, one after the other.
use Rattle.std.proofs.Common.{[], ap, append-nil, append_assoc, inl, inr, length, map, refl, subst, sym, ◌*◌, ◌++◌, ◌∙◌, ◌∷◌, ◌≡◌}
use Rattle.std.proofs.Common.{Err, List, None, Ok, Option, Result, Some, ℕ}
use Rattle.std.proofs.lemmas.Bool.{false≢true}
use Rattle.std.proofs.lemmas.Grind.{flat_map-append}
use Rattle.std.proofs.lemmas.List.{map-append}
use Rattle.std.proofs.lemmas.List.Elements.{All-append, All-cons, All-nil}
use Rattle.std.specs.Io.KnownBytes.{Appends, Consumes, Keeps}
use Rattle.std.specs.List.{flat_map}
use Rattle.std.specs.Prelude.{IfOk, IfSome, IsErr, IsErrAnd, OnOk}
use Rattle.text_out.specs.Writing.{Writes}
use Rattle.mmc_card.specs.BusView.{BusView}
use Rattle.mmc_card.specs.declared.part.Part.{Part}
use Rattle.mmc_block.specs.Device.{unanswered_of}
use Rattle.mmc_switch.specs.Info.{lasting}
use Rattle.mmc_switch.specs.declared.info.Info.{Info}
use Rattle.nbd_messages.specs.declared.request.RequestHeader.{RequestHeader}
use Rattle.nbd_server.specs.Acts.{Act, AreOfParts, AreTurns, IsOfTurns, asked}
use Rattle.nbd_server.specs.Acts.Act.{Asks, Gives, Says}
use Rattle.nbd_server.specs.Desk.{DeskView, Does, Leads}
use Rattle.nbd_server.specs.Exports.{IsExport}
use Rattle.nbd_server.specs.Messages.{IsJunk, IsRequest, data_length}
use Rattle.nbd_server.specs.Plan.{HasAll, IsPlan}
use Rattle.nbd_server.specs.Served.{IsDoneAs, IsServed, IsServedAs, IsServedBy, Served}
use Rattle.nbd_server.specs.Session.{AreTakenUp, EndsAs, done_of}
use Rattle.nbd_server.specs.declared.export.Export.{Export}
use Rattle.nbd_server.specs.declared.fault.InputFault.{InputFault}
use Rattle.nbd_server.specs.declared.fault.InputFault.TheVariants.{Cut, Junk, Reader}
use Rattle.nbd_server.specs.declared.plan.Plan.{Plan}
use Rattle.nbd_server.specs.declared.plan.Plan.TheVariants.{Answer, Ask, Flush, ReadLong, WriteLong}
use Rattle.nbd_server.specs.declared.span.Span.{Span}
use Rattle.nbd_server.proofs.DeskLemmas.{asked_then, asks_one, does_then, no_turns, none_asked_by_none, on_ok, parts_ask_nothing, parts_do, turns_ask_nothing}
use Rattle.nbd_server.proofs.InputLemmas.{appends_kept, consumes_then, reads_none}

-- what went out stays, whatever becomes of a flush
writes_kept : {E : Type 0} (a b c : Option (List ℕ)) (r : Result (Unit {0}) E) (bs : List ℕ) → Appends a b bs
    → Keeps b c → Writes a c r bs
writes_kept a b c (Ok x) bs p q = appends_kept a b c bs p q
writes_kept a b c (Err e) bs p q = (bs, [], sym (append-nil bs), appends_kept a b c bs p q)

pub does_flushed : {B E : Type 0} (view : B → BusView) (old new : DeskView B) (before between after : Option (List ℕ))
    (done : Unit {0}) (r : Result (Unit {0}) E) (acts : List Act)
    → Does {B = B} {E = E} view old new before between (Ok done) acts → Keeps between after
    → Does view old new before after r acts
does_flushed view old new before between after done r acts h kept = record {
  leads = h.leads;
  once = h.once;
  written = writes_kept before between after r _ h.written kept;
}

-- What is done with a request.

-- a long request: what came before it is answered, then its parts are served, and then it has its reply
pub served_long : {B E : Type 0} (view : B → BusView) (a b c : DeskView B) (before between after : Option (List ℕ))
    (done : Unit {0}) (r : Result (Unit {0}) E) (xs ys : List Act) (act : Act) (part : Part) (cookie : ℕ) (plan : Plan)
    → Does {B = B} {E = E} view a b before between (Ok done) xs → AreTurns xs → unanswered_of b.device ≡ 0
    → AreOfParts ys → Leads view b ys c → unanswered_of c.device ≡ 0
    → Does view c c between after r (act ∷ []) → IsDoneAs part cookie plan (ys ++ act ∷ [])
    → (acts : List Act) × Does view a c before after r acts × OnOk r (IsServedAs part cookie plan acts)
served_long view a b c before between after done r xs ys act part cookie plan first turns empty parts leads empty_too last is = (
  xs ++ (ys ++ act ∷ []),
  does_then view a b c before between after done r xs (ys ++ act ∷ []) first
      (does_then view b c c between between after done r ys (act ∷ [])
      (parts_do view b c between done ys parts leads empty empty_too) last),
  on_ok r _ (xs, ys ++ act ∷ [], turns, refl, is),
)

own_asks : (part : Part) (cookie : ℕ) (plan : Plan) (own : List Act) → IsDoneAs part cookie plan own → asked own ≡ cookie ∷ []
own_asks part cookie (Answer error) own is = ap asked is ∙ asks_one [] cookie (Says cookie error) none_asked_by_none refl
own_asks part cookie (Ask request) own (reply, is) =
    ap asked is ∙ asks_one [] cookie (Asks cookie request reply) none_asked_by_none refl
own_asks part cookie Flush own is = ap asked is ∙ asks_one [] cookie (Says cookie None) none_asked_by_none refl
own_asks part cookie (ReadLong span) own (inl (parts, error, of_parts, is, why)) =
    ap asked is ∙ asks_one parts cookie (Says cookie (Some error)) (parts_ask_nothing parts of_parts) refl
own_asks part cookie (ReadLong span) own (inr is) =
    ap asked is.done ∙ asks_one is.parts cookie (Gives cookie is.bytes) (parts_ask_nothing is.parts is.of_parts) refl
own_asks part cookie (WriteLong span bytes) own (inl (parts, error, of_parts, is, why)) =
    ap asked is ∙ asks_one parts cookie (Says cookie (Some error)) (parts_ask_nothing parts of_parts) refl
own_asks part cookie (WriteLong span bytes) own (inr is) =
    ap asked is.done ∙ asks_one is.parts cookie (Says cookie None) (parts_ask_nothing is.parts is.of_parts) refl

-- it is taken up once, under its cookie
served_asks : (export : Export) (header : RequestHeader) (given : Option (List ℕ)) (acts : List Act)
    → IsServedBy export header given acts → asked acts ≡ header.cookie ∷ []
served_asks export header given acts (plan, its, (turns, own, are, whole, is)) =
    ap asked whole
    ∙ asked_then turns own
    ∙ ap (λ cs. cs ++ asked own) (turns_ask_nothing turns are)
    ∙ own_asks export.part header.cookie plan own is

pub after_turns : (export : Export) (header : RequestHeader) (given : Option (List ℕ)) (xs ys : List Act) → AreTurns xs
    → IsServedBy export header given ys → IsServedBy export header given (xs ++ ys)
after_turns export header given xs ys before (plan, its, (turns, own, are, whole, is)) = (
  plan,
  its,
  (
    xs ++ turns,
    own,
    All-append IsOfTurns xs turns before are,
    ap (λ zs. xs ++ zs) whole ∙ sym (append_assoc xs turns own),
    is,
  ),
)

pub if_some_then : {X : Type 0} (o : Option X) (P Q : X → Type 0) → ((x : X) → P x → Q x) → IfSome o P → IfSome o Q
if_some_then (Some x) P Q f h = f x h
if_some_then None P Q f h = tt

-- where all data came, a long write has them
pub has_all : (export : Export) (header : RequestHeader) (given : Option (List ℕ)) (plan : Plan) → IsPlan export header given plan
    → IfSome given (λ bytes. length bytes ≡ data_length header.command header.length) → HasAll plan
has_all export header given (Answer error) h all = tt
has_all export header given (Ask request) h all = tt
has_all export header given (ReadLong span) h all = tt
has_all export header given Flush h all = tt
has_all export header given (WriteLong span bytes) (inl (flush, is)) all = subst HasAll (sym is) tt
has_all export header given (WriteLong span bytes) (inr (inl (invalid, is))) all = subst HasAll (sym is) tt
has_all export header given (WriteLong span bytes) (inr (inr (command, named, known, names, (write, its, can, same)))) all =
    subst (λ (g : Option (List ℕ)). IfSome g (λ bytes. length bytes ≡ data_length header.command header.length)) its all
    ∙ ap (λ c. data_length c header.length) (known ∙ ap Some write)
    ∙ names.length
    ∙ ap (λ (s : Span). 512 * s.count) (sym same)

-- what is known of the card now and for good has the same exports
pub agreed_of : (now info : Info) (export : Export) → lasting now ≡ info → IsExport now export → IsExport info export
agreed_of now info export same is = subst (λ i. IsExport i export) same (record {
  sectors = is.sectors;
  erase_unit = is.erase_unit;
  trims_each = is.trims_each;
  read_only = is.read_only;
  trims = is.trims;
  zeroes = is.zeroes;
})

-- Requests that are served one after the other.

pub none_taken : (export : Export) (input : Option (List ℕ)) → AreTakenUp export input input [] []
none_taken export input = record {
  read = reads_none input;
  each = All-nil (IsServed export);
  cookies = none_asked_by_none;
  turns = [];
  are_turns = no_turns;
  all = refl;
}

-- turns between requests
pub turns_after : (export : Export) (old left : Option (List ℕ)) (acts more : List Act) (served : List Served)
    → AreTakenUp export old left acts served → AreTurns more → AreTakenUp export old left (acts ++ more) served
turns_after export old left acts more served h are = record {
  read = h.read;
  each = h.each;
  cookies = asked_then acts more
      ∙ ap (λ cs. asked acts ++ cs) (turns_ask_nothing more are)
      ∙ append-nil (asked acts)
      ∙ h.cookies;
  turns = h.turns ++ more;
  are_turns = All-append IsOfTurns h.turns more h.are_turns are;
  all = ap (λ xs. xs ++ more) h.all ∙ append_assoc (flat_map (λ (s : Served). s.acts) served) h.turns more;
}

-- one request more, with the turns before it
pub taken_more : (export : Export) (old between left : Option (List ℕ)) (acts more : List Act) (served : List Served)
    (header : RequestHeader) (rest next : List ℕ) (given : Option (List ℕ)) (h : AreTakenUp export old between acts served)
    → IsRequest header rest next → IfSome given (λ bytes. bytes ≡ rest) → IsServedBy export header given more
    → Consumes between left next
    → AreTakenUp export old left (acts ++ more) (served ++ record { header = header; bytes = next; acts = h.turns ++ more } ∷ [])
taken_more export old between left acts more served header rest next given h is its by read =
    let one : Served = record { header = header; bytes = next; acts = h.turns ++ more } in
    let all_bytes = λ (s : Served). s.bytes in
    let all_acts = λ (s : Served). s.acts in
    let cookie = λ (s : Served). s.header.cookie in
    record {
      read = subst (Consumes old left)
          (ap (λ bs. flat_map all_bytes served ++ bs) (sym (append-nil next)) ∙ sym (flat_map-append all_bytes served (one ∷ [])))
          (consumes_then old between left (flat_map all_bytes served) next h.read read);
      each = All-append (IsServed export) served (one ∷ []) h.each (All-cons (IsServed export) one []
          (rest, given, is, its, after_turns export header given h.turns more h.are_turns by) (All-nil (IsServed export)));
      cookies = asked_then acts more
          ∙ ap (λ cs. cs ++ asked more) h.cookies
          ∙ ap (λ cs. map cookie served ++ cs) (served_asks export header given more by)
          ∙ sym (map-append cookie served (one ∷ []));
      turns = [];
      are_turns = no_turns;
      all = ap (λ xs. xs ++ more) h.all
          ∙ append_assoc (flat_map all_acts served) h.turns more
          ∙ ap (λ xs. flat_map all_acts served ++ xs) (sym (append-nil (h.turns ++ more)))
          ∙ sym (flat_map-append all_acts served (one ∷ []))
          ∙ sym (append-nil (flat_map all_acts (served ++ one ∷ [])));
    }

-- a fault, whatever would have come
pub does_broken : {B X E : Type 0} (view : B → BusView) (old new : DeskView B) (before after : Option (List ℕ))
    (acts : List Act) (e : E) (r : Result X E) → IsErr r → Does view old new before after (Err e) acts
    → Does view old new before after (done_of r) acts
does_broken view old new before after acts e (Ok x) failed h = absurd (false≢true failed)
does_broken view old new before after acts e (Err d) failed h =
    record { leads = h.leads; once = h.once; written = h.written }

pub if_no_ok : {X E : Type 0} (r : Result X E) (P : X → Type 0) → IsErr r → IfOk r P
if_no_ok (Ok x) P failed = absurd (false≢true failed)
if_no_ok (Err e) P failed = tt

-- a fault that is passed on as another
pub passed_on : {X E : Type 0} (r : Result X E) (e : E) → IsErr r → IsErrAnd r (λ d. d ≡ e) → r ≡ Err e
passed_on (Ok x) e failed h = absurd (false≢true failed)
passed_on (Err d) e failed h = ap Err h

pub ends_as : (fault : InputFault) (left new : Option (List ℕ)) (served : List Served) → (fault ≡ Junk → IsJunk left new)
    → EndsAs (Err fault) left new served
ends_as Junk left new served junk = junk refl
ends_as Cut left new served junk = tt
ends_as Reader left new served junk = tt
