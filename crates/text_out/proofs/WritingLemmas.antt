-- Writes, one after the other.
use Rattle.std.proofs.Common.{◌≡◌, ℕ, List, [], ◌++◌, Option, None, Some, Result, Ok, Err, sym, ap, ◌∙◌, append_assoc}
use Rattle.std.proofs.Common.{append-nil, subst}
use Rattle.std.specs.Prelude.{IsErr}
use Rattle.std.proofs.lemmas.Bool.{false≢true}
use Rattle.std.specs.Io.KnownBytes.{Appends}
use Rattle.text_out.specs.Writing.{AppendsFront, Writes}

pub appends_none : (a : Option (List ℕ)) → Appends a a []
appends_none None = tt
appends_none (Some x) = sym (append-nil x)

pub appends_more : (a b c : Option (List ℕ)) (bs cs : List ℕ) → Appends a b bs → Appends b c cs → Appends a c (bs ++ cs)
appends_more None b c bs cs p q = tt
appends_more (Some x) None c bs cs p q = absurd p
appends_more (Some x) (Some y) None bs cs p q = absurd q
appends_more (Some x) (Some y) (Some z) bs cs p q = q ∙ ap (λ l. l ++ cs) p ∙ append_assoc x bs cs

-- what went out before, and then a prefix of what follows, is a prefix of both
pub front_after : (a b c : Option (List ℕ)) (first text : List ℕ) → Appends a b first → AppendsFront b c text
    → AppendsFront a c (first ++ text)
front_after a b c first text p q = (
  first ++ q.0,
  q.1,
  ap (λ l. first ++ l) q.2 ∙ sym (append_assoc first q.0 q.1),
  appends_more a b c first q.0 p q.3,
)

pub front_before : (a b : Option (List ℕ)) (text more : List ℕ) → AppendsFront a b text
    → AppendsFront a b (text ++ more)
front_before a b text more q = (q.0, q.1 ++ more, ap (λ l. l ++ more) q.2 ∙ append_assoc q.0 q.1 more, q.3)

-- one write that ended well, and then another
pub writes_after : {E : Type 0} (a b c : Option (List ℕ)) (r : Result Unit E) (first text : List ℕ) → Appends a b first
    → Writes b c r text → Writes a c r (first ++ text)
writes_after a b c (Ok x) first text p q = appends_more a b c first text p q
writes_after a b c (Err e) first text p q = front_after a b c first text p q

-- a fault, whichever it is
pub writes_failed : {E : Type 0} (a b : Option (List ℕ)) (r : Result Unit E) (text : List ℕ) → IsErr r
    → AppendsFront a b text → Writes a b r text
writes_failed a b (Ok x) text failed p = absurd (false≢true failed)
writes_failed a b (Err e) text failed p = p

-- after a prefix of the whole went out, a fault within what follows it
pub writes_broken : {E : Type 0} (a b c : Option (List ℕ)) (r : Result Unit E) (front text rest whole : List ℕ)
    → IsErr r → whole ≡ front ++ (text ++ rest) → Appends a b front → AppendsFront b c text → Writes a c r whole
writes_broken a b c r front text rest whole failed e p q = subst (Writes a c r) (sym e)
    (writes_failed a c r (front ++ (text ++ rest)) failed
    (front_after a b c front (text ++ rest) p (front_before b c text rest q)))

-- the same where the call answers another value
pub front_broken : (a b c : Option (List ℕ)) (front text rest whole : List ℕ) → whole ≡ front ++ (text ++ rest)
    → Appends a b front → AppendsFront b c text → AppendsFront a c whole
front_broken a b c front text rest whole e p q = subst (AppendsFront a c) (sym e)
    (front_after a b c front (text ++ rest) p (front_before b c text rest q))
