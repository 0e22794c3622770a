-- What went out, by how a check ended.
use Rattle.std.proofs.Common.{◌≡◌, ℕ, Bool, List, [], Option, Result, Ok, Err, append-nil, cond, false, refl, sym, true}
use Rattle.std.specs.Prelude.{IsErr, OnErr}
use Rattle.std.proofs.lemmas.Bool.{false≢true}
use Rattle.std.specs.Io.KnownBytes.{Appends}
use Rattle.text_out.proofs.WritingLemmas.{appends_none}
use Rattle.text_out.specs.Writing.{AppendsFront, Writes}
use Rattle.card_check.specs.WrongLines.{Prints}

pub on_err : {T E : Type 0} (r : Result T E) (P : Type 0) → P → OnErr r P
on_err (Ok x) P p = tt
on_err (Err e) P p = p

-- all of a text is a front of it
pub front_all : (a b : Option (List ℕ)) (text : List ℕ) → Appends a b text → AppendsFront a b text
front_all a b text p = (text, [], sym (append-nil text), p)

-- and so is nothing
pub front_none : (a : Option (List ℕ)) (text : List ℕ) → AppendsFront a a text
front_none a text = ([], text, refl, appends_none a)

-- before a fault nothing went out
pub writes_nothing : {E : Type 0} (a : Option (List ℕ)) (r : Result Unit E) (text : List ℕ) → IsErr r → Writes a a r text
writes_nothing a (Ok x) text failed = absurd (false≢true failed)
writes_nothing a (Err e) text failed = front_none a text

pub prints_failed : {A E : Type 0} (a b : Option (List ℕ)) (r : Result A E) (text : List ℕ) → IsErr r
    → AppendsFront a b text → Prints a b r text
prints_failed a b (Ok x) text failed p = absurd (false≢true failed)
prints_failed a b (Err e) text failed p = p

-- nothing is written where a test holds
pub nothing_where : (a : Option (List ℕ)) (test : Bool) (text : List ℕ) → test ≡ true → Appends a a (cond test [] text)
nothing_where a true text is = appends_none a
nothing_where a false text is = cc is

-- and otherwise this is
pub written_else : {E : Type 0} (a b : Option (List ℕ)) (r : Result Unit E) (test : Bool) (text : List ℕ) → test ≡ false
    → Writes a b r text → Writes a b r (cond test [] text)
written_else a b r true text is writes = cc is
written_else a b r false text is writes = writes
