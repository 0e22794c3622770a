-- What the test of a table says of a field.
use Rattle.std.proofs.Common.{◌≡◌, ◌<◌, ◌≤◌, ◌+◌, ◌-◌, ◌*◌, ℕ, zero, suc, List, Bool, true, false, ◌&&◌, refl, sym, ap, ◌∙◌, arith}
use Rattle.std.specs.Prelude.{nat_le, nat_lt, ◌==◌, codes}
use Rattle.std.proofs.lemmas.Bool.{eqb-true}
use Rattle.mmc_frame.specs.Field.{field}
use Rattle.card_decode.specs.declared.register.Register.{Register}
use Rattle.card_decode.specs.declared.register.Register.TheVariants.{ExtCsd}
use Rattle.card_decode.specs.declared.field.Field.{Field}
use Rattle.card_decode.specs.declared.field.Meaning.{Meaning}
use Rattle.card_decode.specs.declared.field.Meaning.TheVariants.{Number}
use Rattle.card_decode.specs.Registers.{register_len}
use Rattle.card_decode.specs.Fields.{can_say, fits, high_bit, is_reserved, low_bit, all_fit, is_hexadecimal, spans}
use Rattle.card_decode.specs.Words.{digits_text, ending_text, field_text, fields_text, label_text, value_text}
use Rattle.std.specs.declared.io.Error.{Error}
use Rattle.text_out.specs.Writing.{Writes}
use Rattle.card_decode.specs.Registers.{number_of}
use Rattle.card_decode.specs.Summaries.{PutsFields}
use Rattle.std.proofs.Common.{Option, Result, [], ◌∷◌, ◌++◌, length, drop, get_or, drop-cons, add-one, append_assoc, subst}

pub and_true : (a b : Bool) → (a && b) ≡ true → (a ≡ true) × (b ≡ true)
and_true true b h = (refl, h)
and_true false b h = cc

and_both : (a b : Bool) → a ≡ true → b ≡ true → (a && b) ≡ true
and_both a b h k = rw (h, k) refl

le_true : (a b : ℕ) → nat_le a b ≡ true → a ≤ b
le_true a b h = grind arith

lt_true : (a b : ℕ) → nat_lt a b ≡ true → a < b
lt_true a b h = grind arith

pub fits_parts : (register : Register) (f : Field) → fits register f ≡ true
    → (f.low ≤ f.high) × (high_bit register f < 8 * register_len register)
    × (can_say (high_bit register f + 1 - low_bit register f) f.meaning ≡ true)
fits_parts register f h =
    let both = and_true _ _ h in
    let first = and_true _ _ both.0 in
    (le_true _ _ first.0, lt_true _ _ first.1, both.1)

-- the text of a field between two bits is none, or its three parts
abbrev NoneAt : Register → ℕ → Field → ℕ → ℕ → Type 0
NoneAt register n f h l = (is_reserved f.meaning && (field h l n == 0)) ≡ true → field_text register n f ≡ []

none_at : (register : Register) (n : ℕ) (f : Field) → NoneAt register n f (high_bit register f) (low_bit register f)
unfolding field_text
none_at register n f silent = rw silent refl

pub text_none : (register : Register) (n : ℕ) (f : Field) (h l : ℕ) → h ≡ high_bit register f → l ≡ low_bit register f
    → (is_reserved f.meaning && (field h l n == 0)) ≡ true → field_text register n f ≡ []
text_none register n f h l high low =
    subst (λ x. NoneAt register n f x l) (sym high)
    (subst (λ y. NoneAt register n f (high_bit register f) y) (sym low) (none_at register n f))

abbrev SomeAt : Register → ℕ → Field → ℕ → ℕ → Type 0
SomeAt register n f h l =
    (is_reserved f.meaning && (field h l n == 0)) ≡ false → field_text register n f
    ≡ label_text f ++ (value_text (h + 1 - l) f.meaning (field h l n) ++ ending_text f.meaning (field h l n))

some_at : (register : Register) (n : ℕ) (f : Field) → SomeAt register n f (high_bit register f) (low_bit register f)
unfolding field_text
some_at register n f silent = rw silent refl

pub text_some : (register : Register) (n : ℕ) (f : Field) (h l : ℕ) → h ≡ high_bit register f → l ≡ low_bit register f
    → (is_reserved f.meaning && (field h l n == 0)) ≡ false → field_text register n f
    ≡ label_text f ++ (value_text (h + 1 - l) f.meaning (field h l n) ++ ending_text f.meaning (field h l n))
text_some register n f h l high low =
    subst (λ x. SomeAt register n f x l) (sym high)
    (subst (λ y. SomeAt register n f (high_bit register f) y) (sym low) (some_at register n f))

-- the field at a place, and those after it
pub fields_at : (register : Register) (n : ℕ) (fs : List Field) (i : ℕ) (d : Field) → i < length fs
    → fields_text register n (drop i fs)
    ≡ field_text register n (get_or fs i d) ++ fields_text register n (drop (i + 1) fs)
unfolding fields_text
fields_at register n fs i d lt =
    ap (fields_text register n) (drop-cons fs i d lt)
    ∙ ap (λ k. field_text register n (get_or fs i d) ++ fields_text register n (drop k fs)) (sym (add-one i))

pub fields_end : (register : Register) (n : ℕ) (fs : List Field) (i : ℕ) → length fs ≤ i
    → fields_text register n (drop i fs) ≡ []
unfolding fields_text
fields_end register n [] zero h = refl
fields_end register n [] (suc i) h = refl
fields_end register n (f ∷ fs) zero h = absurd (omega arith)
fields_end register n (f ∷ fs) (suc i) h = fields_end register n fs i (omega arith)

pub fits_at : (register : Register) (fs : List Field) (i : ℕ) (d : Field) → i < length fs
    → all_fit register fs ≡ true → fits register (get_or fs i d) ≡ true
fits_at register [] i d lt h = absurd (omega arith)
fits_at register (f ∷ fs) zero d lt h = (and_true _ _ h).0
fits_at register (f ∷ fs) (suc i) d lt h = fits_at register fs i d (omega arith) (and_true _ _ h).1

pub value_hexadecimal : (width : ℕ) (m : Meaning) (v : ℕ) → is_hexadecimal m ≡ true
    → value_text width m v ≡ codes "0x" ++ digits_text width v
unfolding value_text
value_hexadecimal width m v h = rw h refl

abbrev pub no_field : Field
no_field = record { name = record { ref_ptr = (0, 0); now = [] }; high = 0; low = 0; meaning = Number }

-- two lists of fields, one below the other
pub spans_more : (xs ys : List Field) (count middle low : ℕ) → spans count middle xs ≡ true → spans middle low ys ≡ true
    → spans count low (xs ++ ys) ≡ true
spans_more [] ys count middle low h k = subst (λ c. spans c low ys ≡ true) (sym (eqb-true count middle h)) k
spans_more (x ∷ xs) ys count middle low h k =
    let both = and_true _ _ h in
    and_both _ _ both.0 (spans_more xs ys x.low middle low both.1 k)

pub fits_more : (register : Register) (xs ys : List Field) → all_fit register xs ≡ true → all_fit register ys ≡ true
    → all_fit register (xs ++ ys) ≡ true
fits_more register [] ys h k = k
fits_more register (x ∷ xs) ys h k =
    let both = and_true _ _ h in
    and_both _ _ both.0 (fits_more register xs ys both.1 k)

pub fields_more : (register : Register) (n : ℕ) (xs ys : List Field)
    → fields_text register n (xs ++ ys) ≡ fields_text register n xs ++ fields_text register n ys
unfolding fields_text
fields_more register n [] ys = refl
fields_more register n (x ∷ xs) ys =
    ap (λ t. field_text register n x ++ t) (fields_more register n xs ys)
    ∙ sym (append_assoc (field_text register n x) (fields_text register n xs) (fields_text register n ys))

-- five lists of fields, each below the one before
pub five_texts : (register : Register) (n : ℕ) (a b c d e : List Field)
    → fields_text register n (a ++ (b ++ (c ++ (d ++ e))))
    ≡ fields_text register n a ++ (fields_text register n b ++ (fields_text register n c
    ++ (fields_text register n d ++ fields_text register n e)))
five_texts register n a b c d e =
    fields_more register n a (b ++ (c ++ (d ++ e))) ∙ ap (λ t. fields_text register n a ++ t)
    (fields_more register n b (c ++ (d ++ e)) ∙ ap (λ t. fields_text register n b ++ t)
    (fields_more register n c (d ++ e) ∙ ap (λ t. fields_text register n c ++ t) (fields_more register n d e)))

pub five_fit : (a b c d e : List Field) → all_fit ExtCsd a ≡ true → all_fit ExtCsd b ≡ true → all_fit ExtCsd c ≡ true
    → all_fit ExtCsd d ≡ true → all_fit ExtCsd e ≡ true → all_fit ExtCsd (a ++ (b ++ (c ++ (d ++ e)))) ≡ true
five_fit a b c d e ha hb hc hd he =
    fits_more ExtCsd a _ ha (fits_more ExtCsd b _ hb (fits_more ExtCsd c _ hc (fits_more ExtCsd d e hd he)))

-- what is written of the five parts of an EXT_CSD's table is written of the whole
pub puts_parts : (bytes : List ℕ) (a b c d e : List Field)
    → spans 512 254 a ≡ true → spans 254 216 b ≡ true → spans 216 181 c ≡ true → spans 181 134 d ≡ true → spans 134 0 e ≡ true
    → all_fit ExtCsd a ≡ true → all_fit ExtCsd b ≡ true → all_fit ExtCsd c ≡ true → all_fit ExtCsd d ≡ true
    → all_fit ExtCsd e ≡ true → (old new : Option (List ℕ)) (r : Result Unit Error)
    → (let n = number_of ExtCsd bytes in
    Writes old new r (fields_text ExtCsd n a ++ (fields_text ExtCsd n b ++ (fields_text ExtCsd n c
    ++ (fields_text ExtCsd n d ++ fields_text ExtCsd n e)))))
    → PutsFields ExtCsd bytes old new r
puts_parts bytes a b c d e sa sb sc sd se fa fb fc fd fe old new r written = record {
  fields = a ++ (b ++ (c ++ (d ++ e)));
  table = record {
    whole = spans_more a _ 512 254 0 sa (spans_more b _ 254 216 0 sb (spans_more c _ 216 181 0 sc (spans_more d _ 181 134 0 sd se)));
    fitting = five_fit a b c d e fa fb fc fd fe;
    same = tt;
  };
  written = subst (Writes old new r) (sym (five_texts ExtCsd (number_of ExtCsd bytes) a b c d e)) written;
}
