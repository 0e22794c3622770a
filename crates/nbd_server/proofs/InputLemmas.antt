-- Bytes that are read and written, one after the other.
use Rattle.std.proofs.Common.{[], ap, append_assoc, arith, is_err, length, refl, false, subst, sym, take, ◌+◌, ◌++◌, ◌∙◌, ◌≡◌, ◌≢◌, ◌≤◌, Err, List, None, Ok, Option, Result, Some, ℕ}
use Rattle.std.proofs.lemmas.Bool.{false≢true}
use Rattle.std.specs.Prelude.{IfSome, OnOk}
use Rattle.std.specs.Io.KnownBytes.{Appends, Consumes, IsAtEnd, Keeps}
use Rattle.text_out.specs.Writing.{Writes}
use Rattle.text_out.proofs.WritingLemmas.{appends_more, appends_none}
use Rattle.nbd_messages.specs.Requests.{request_in}
use Rattle.nbd_messages.specs.declared.command.Command.{Command}
use Rattle.nbd_messages.specs.declared.command.Command.TheVariants.{Disconnect, Flush, Read, Trim, Write, WriteZeroes}
use Rattle.nbd_messages.specs.declared.request.RequestHeader.{RequestHeader}
use Rattle.nbd_server.specs.Messages.{HasWhole, data_length}
use Rattle.nbd_server.specs.Session.{Grows, Shrinks}

pub at_end : (left : Option (List ℕ)) (n : ℕ) → IfSome left (λ xs. n ≡ 0 → xs ≡ []) → n ≡ 0 → IsAtEnd left
at_end None n h none = tt
at_end (Some xs) n h none = h none

pub consumes_none : (old new : Option (List ℕ)) → Keeps old new → Consumes old new []
consumes_none None new h = tt
consumes_none (Some xs) None h = h
consumes_none (Some xs) (Some ys) h = sym h

pub reads_none : (left : Option (List ℕ)) → Consumes left left []
reads_none None = tt
reads_none (Some xs) = refl

pub appends_kept : (a b c : Option (List ℕ)) (bs : List ℕ) → Appends a b bs → Keeps b c → Appends a c bs
appends_kept None b c bs p q = tt
appends_kept (Some x) None c bs p q = absurd p
appends_kept (Some x) (Some y) None bs p q = absurd q
appends_kept (Some x) (Some y) (Some z) bs p q = q ∙ p

pub consumes_then : (a b c : Option (List ℕ)) (xs ys : List ℕ) → Consumes a b xs → Consumes b c ys
    → Consumes a c (xs ++ ys)
consumes_then None b c xs ys p q = tt
consumes_then (Some z) None c xs ys p q = absurd p
consumes_then (Some z) (Some y) None xs ys p q = absurd q
consumes_then (Some z) (Some y) (Some x) xs ys p q = p ∙ ap (λ rest. xs ++ rest) q ∙ sym (append_assoc xs ys x)

-- Some bytes, and then more.

pub shrinks_by : (a b : Option (List ℕ)) (bytes : List ℕ) → Consumes a b bytes → Shrinks a b
shrinks_by a b bytes h = (bytes, h)

pub shrinks_then : (a b c : Option (List ℕ)) → Shrinks a b → Shrinks b c → Shrinks a c
shrinks_then a b c (xs, p) (ys, q) = (xs ++ ys, consumes_then a b c xs ys p q)

pub grows_none : (a : Option (List ℕ)) → Grows a a
grows_none a = ([], appends_none a)

pub grows_by : (a b : Option (List ℕ)) (text : List ℕ) → Appends a b text → Grows a b
grows_by a b text h = (text, h)

pub grows_then : (a b c : Option (List ℕ)) → Grows a b → Grows b c → Grows a c
grows_then a b c (xs, p) (ys, q) = (xs ++ ys, appends_more a b c xs ys p q)

pub grows_kept : (a b c : Option (List ℕ)) → Grows a b → Keeps b c → Grows a c
grows_kept a b c (xs, p) same = (xs, appends_kept a b c xs p same)

-- the last of several writes
pub grows_on : {E : Type 0} (a b c : Option (List ℕ)) (r : Result (Unit {0}) E) (text : List ℕ) → Grows a b
    → Writes b c r text → OnOk r (Grows a c)
grows_on a b c (Ok x) text h wrote = grows_then a b c h (text, wrote)
grows_on a b c (Err e) text h wrote = tt

-- Requests that have come whole.

no_data : (command : Option Command) (n : ℕ) → command ≢ Some Write → data_length command n ≡ 0
no_data None n h = refl
no_data (Some Read) n h = refl
no_data (Some Write) n h = absurd (h refl)
no_data (Some Disconnect) n h = refl
no_data (Some Flush) n h = refl
no_data (Some Trim) n h = refl
no_data (Some WriteZeroes) n h = refl

data_within : (command : Option Command) (n m : ℕ) → n ≤ m → data_length command n ≤ m
data_within None n m h = omega arith
data_within (Some Read) n m h = omega arith
data_within (Some Write) n m h = h
data_within (Some Disconnect) n m h = omega arith
data_within (Some Flush) n m h = omega arith
data_within (Some Trim) n m h = omega arith
data_within (Some WriteZeroes) n m h = omega arith

has_whole : (buffer head after : List ℕ) (header : RequestHeader) → head ≡ take 28 buffer → length after + 28 ≡ length buffer
    → request_in head ≡ Some header → data_length header.command header.length ≤ length after → HasWhole buffer
has_whole buffer head after header front rest is fits = (
  omega (arith, rest),
  subst (λ o. IfSome o (λ h. data_length h.command h.length + 28 ≤ length buffer)) (sym is ∙ ap request_in front) (omega (arith, rest, fits)),
)

pub has_junk : (buffer head after : List ℕ) → head ≡ take 28 buffer → length after + 28 ≡ length buffer
    → request_in head ≡ None → HasWhole buffer
has_junk buffer head after front rest is = (
  omega (arith, rest),
  subst (λ o. IfSome o (λ h. data_length h.command h.length + 28 ≤ length buffer)) (sym is ∙ ap request_in front) tt,
)

pub has_plain : (buffer head after : List ℕ) (header : RequestHeader) → head ≡ take 28 buffer
    → length after + 28 ≡ length buffer → request_in head ≡ Some header → header.command ≢ Some Write → HasWhole buffer
has_plain buffer head after header front rest is plain =
    has_whole buffer head after header front rest is (omega (arith, no_data header.command header.length plain))

pub has_write : (buffer head after : List ℕ) (header : RequestHeader) → head ≡ take 28 buffer
    → length after + 28 ≡ length buffer → request_in head ≡ Some header → header.length ≤ length after → HasWhole buffer
has_write buffer head after header front rest is fits =
    has_whole buffer head after header front rest is (data_within header.command header.length (length after) fits)

-- Pieces of data.

-- what holds where there was no error
pub was_ok : {X E : Type 0} (r : Result X E) (P : Type 0) → is_err r ≡ false → OnOk r P → P
was_ok (Ok x) P is h = h
was_ok (Err e) P is h = absurd (false≢true (sym is))
