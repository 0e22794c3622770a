-- Clocks that are drawn one after the other.
use Rattle.std.proofs.Common.{◌≡◌, ℕ, suc, ◌+◌, ◌<◌, List, [], ◌∷◌, ◌++◌, false, Option, Result, Ok, Err, refl, sym, ap, ◌∙◌, append_assoc}
use Rattle.std.proofs.Common.{append-nil, arith, subst, take-append-drop, drop-cons, length, replicate, take, drop, get_or, ◌-◌}
use Rattle.std.specs.Prelude.{IsErr}
use Rattle.std.specs.List.{flat_map}
use Rattle.std.proofs.lemmas.Grind.{flat_map-append}
use Rattle.std.proofs.lemmas.List.{replicate-append-replicate, take_more}
use Rattle.std.proofs.lemmas.Bool.{false≢true}
use Rattle.std.specs.Io.KnownBytes.{Appends}
use Rattle.text_out.specs.Writing.{AppendsFront, Writes}
use Rattle.text_out.proofs.WritingLemmas.{appends_none, appends_more, front_after, front_before}
use Rattle.card_wave.specs.Samples.{held}
use Rattle.card_wave.specs.declared.sample.Sample.{Sample}
use Rattle.card_wave.specs.declared.wave_writer.WaveEnd.{WaveEnd}
use Rattle.card_wave.specs.declared.wave_writer.WaveWriter.{WaveWriter}
use Rattle.card_wave.specs.WaveText.{sample_text, next_end, end_after, wave_text, Drawn, Draws}

-- a text with nothing after it
pub writes_whole : {E : Type 0} (a b : Option (List ℕ)) (r : Result Unit E) (text : List ℕ) → Writes a b r text
    → Writes a b r (text ++ [])
writes_whole a b r text h = subst (Writes a b r) (sym (append-nil text)) h

pub end_append : (e : WaveEnd) (xs ys : List Sample) → end_after e (xs ++ ys) ≡ end_after (end_after e xs) ys
unfolding end_after
end_append e [] ys = refl
end_append e (x ∷ xs) ys = end_append (next_end e x) xs ys

pub wave_append : (e : WaveEnd) (xs ys : List Sample) → wave_text e (xs ++ ys)
    ≡ wave_text e xs ++ wave_text (end_after e xs) ys
unfolding wave_text end_after
wave_append e [] ys = refl
wave_append e (x ∷ xs) ys = ap (λ t. sample_text e x ++ t) (wave_append (next_end e x) xs ys)
    ∙ sym (append_assoc (sample_text e x) (wave_text (next_end e x) xs) (wave_text (end_after (next_end e x) xs) ys))

-- nothing was drawn
pub drawn_none : {W : Type 0} (contents : W → Option (List ℕ)) (w : WaveWriter W) → Drawn contents w w []
unfolding wave_text end_after
drawn_none contents w = record { written = appends_none (contents w.out); end = refl }

-- some clocks were drawn, and then others
pub drawn_more : {W : Type 0} (contents : W → Option (List ℕ)) (a b c : WaveWriter W) (xs ys : List Sample)
    → Drawn contents a b xs → Drawn contents b c ys → Drawn contents a c (xs ++ ys)
drawn_more contents a b c xs ys p q =
    record {
      written = subst (Appends (contents a.out) (contents c.out)) (sym (wave_append a.end xs ys ∙ ap (λ e. wave_text a.end xs ++ wave_text e ys) (sym p.end)))
          (appends_more (contents a.out) (contents b.out) (contents c.out) (wave_text a.end xs) (wave_text b.end ys) p.written q.written);
      end = q.end ∙ ap (λ e. end_after e ys) p.end ∙ sym (end_append a.end xs ys);
    }

-- some clocks were drawn, and then a fault came within others
front_more : {W : Type 0} (contents : W → Option (List ℕ)) (a b c : WaveWriter W) (xs ys : List Sample)
    → Drawn contents a b xs → AppendsFront (contents b.out) (contents c.out) (wave_text b.end ys)
    → AppendsFront (contents a.out) (contents c.out) (wave_text a.end (xs ++ ys))
front_more contents a b c xs ys p q =
    subst (AppendsFront (contents a.out) (contents c.out))
    (sym (wave_append a.end xs ys ∙ ap (λ e. wave_text a.end xs ++ wave_text e ys) (sym p.end)))
    (front_after (contents a.out) (contents b.out) (contents c.out) (wave_text a.end xs) (wave_text b.end ys) p.written q)

pub draws_more : {W T E : Type 0} (contents : W → Option (List ℕ)) (a b c : WaveWriter W) (r : Result T E)
    (xs ys : List Sample) → Drawn contents a b xs → Draws contents b c r ys → Draws contents a c r (xs ++ ys)
draws_more contents a b c (Ok x) xs ys p q = drawn_more contents a b c xs ys p q
draws_more contents a b c (Err e) xs ys p q = front_more contents a b c xs ys p q

-- a fault within the first clocks, before the others
pub draws_failed : {W T E : Type 0} (contents : W → Option (List ℕ)) (a b : WaveWriter W) (r : Result T E)
    (xs ys : List Sample) → IsErr r → AppendsFront (contents a.out) (contents b.out) (wave_text a.end xs)
    → Draws contents a b r (xs ++ ys)
draws_failed contents a b (Ok x) xs ys failed p = absurd (false≢true failed)
draws_failed contents a b (Err e) xs ys failed p =
    subst (AppendsFront (contents a.out) (contents b.out)) (sym (wave_append a.end xs ys))
    (front_before (contents a.out) (contents b.out) (wave_text a.end xs) (wave_text (end_after a.end xs) ys) p)

-- the same after some clocks
pub draws_broken : {W T E : Type 0} (contents : W → Option (List ℕ)) (a b c : WaveWriter W) (r : Result T E)
    (xs ys zs : List Sample) → IsErr r → Drawn contents a b xs
    → AppendsFront (contents b.out) (contents c.out) (wave_text b.end ys) → Draws contents a c r (xs ++ (ys ++ zs))
draws_broken contents a b c r xs ys zs failed p q =
    draws_more contents a b c r xs (ys ++ zs) p (draws_failed contents b c r ys zs failed q)

-- the clock at a place, those before it and those after it
pub parts_at : (xs : List Sample) (i : ℕ) (d : Sample) → i < length xs → xs
    ≡ take i xs ++ ((get_or xs i d ∷ []) ++ drop (suc i) xs)
parts_at xs i d lt = sym (take-append-drop i xs) ∙ ap (λ l. take i xs ++ l) (drop-cons xs i d lt)

-- the clocks of the items before the one at a place and of that one
pub pieces_taken : {X A : Type 0} (f : X → List A) (xs : List X) (i : ℕ) (d : X) → i < length xs
    → flat_map f (take (i + 1) xs) ≡ flat_map f (take i xs) ++ f (get_or xs i d)
pieces_taken f xs i d lt =
    ap (flat_map f) (take_more xs i d lt)
    ∙ flat_map-append f (take i xs) (get_or xs i d ∷ [])
    ∙ ap (λ l. flat_map f (take i xs) ++ l) (append-nil (f (get_or xs i d)))

-- the same and those of the items after it
pub pieces_at : {X A : Type 0} (f : X → List A) (xs : List X) (i : ℕ) (d : X) → i < length xs → flat_map f xs
    ≡ flat_map f (take i xs) ++ (f (get_or xs i d) ++ flat_map f (drop (suc i) xs))
pieces_at f xs i d lt =
    ap (flat_map f) (sym (take-append-drop i xs) ∙ ap (λ l. take i xs ++ l) (drop-cons xs i d lt))
    ∙ flat_map-append f (take i xs) (get_or xs i d ∷ drop (suc i) xs)

-- what a read past the end would give
abbrev pub no_sample : Sample
no_sample = record { cmd = false; dat = [] }

-- one clock more that shows the same
pub held_more : (n : ℕ) (s : Sample) → held n s ++ (s ∷ []) ≡ held (n + 1) s
unfolding held
held_more n s = replicate-append-replicate n 1 s

-- the same clocks, of which one is looked at
pub held_at : (i n : ℕ) (s : Sample) → i < n → held i s ++ ((s ∷ []) ++ held (n - suc i) s) ≡ held n s
unfolding held
held_at i n s lt =
    replicate-append-replicate i (suc (n - suc i)) s
    ∙ ap (λ k. replicate k s) (let e : i + suc (n - suc i) ≡ n = omega (arith, lt) in e)
