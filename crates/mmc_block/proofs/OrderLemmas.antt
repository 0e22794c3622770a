-- In order: folds over requests, and what is known of a machine after some requests and answers.
use Rattle.std.proofs.Common.{◌++◌, ◌+◌, ◌<◌, ◌∙◌, ◌∷◌, ◌≡◌, ◌≤◌, ◌⊎◌, Bool, List, None, Option, Some, [], ap, arith, cond}
use Rattle.std.proofs.Common.{drop, false, inl, inr, length, refl, subst, suc, sym, true, zero, ℕ}
use Rattle.std.specs.Prelude.{nat_lt, replicate}
use Rattle.std.proofs.lemmas.List.{length-replicate}
use Rattle.std.proofs.lemmas.Bool.{le-ltb, lt-ltb}
use Rattle.mmc_card.specs.declared.part.Part.{Part}
use Rattle.mmc_card.specs.Sectors.{Sector, part_number, pieces, touches, value_of}
use Rattle.mmc_card.proofs.SectorLemmas.{by_touch, same_part, untouched}
use Rattle.mmc_block.specs.declared.completion.Answer.{Answer}
use Rattle.mmc_switch.specs.declared.info.Info.{Info}
use Rattle.mmc_queue.specs.declared.request.Request.{Request}
use Rattle.mmc_queue.specs.declared.request.Request.TheVariants.{Erase, Read, Trim, Write}
use Rattle.mmc_block.specs.InOrder.{below, effect_at, in_turn, settled}
use Rattle.mmc_block.specs.Machine.{IsAmong, IsMerged, Waiting}
use Rattle.mmc_requests.specs.Changes.{erased_at}
use Rattle.mmc_block.specs.Changes.{change_of}
use Rattle.mmc_queue.specs.Requests.{Names, is_read}
use Rattle.mmc_block.proofs.TicketLemmas.{count, one, one_same}

-- Members.

pub among_last : {A : Type 0} (xs : List A) (x w : A) → IsAmong (xs ++ x ∷ []) w → IsAmong xs w ⊎ (w ≡ x)
among_last [] x w (inl e) = inr e
among_last [] x w (inr n) = absurd n
among_last (y ∷ xs) x w (inl e) = inl (inl e)
among_last (y ∷ xs) x w (inr h) = elim (among_last xs x w h) [ inl k ↦ inl (inr k) | inr e ↦ inr e ]

pub among_front : {A : Type 0} (xs ys : List A) (w : A) → IsAmong xs w → IsAmong (xs ++ ys) w
among_front [] ys w h = absurd h
among_front (x ∷ xs) ys w (inl e) = inl e
among_front (x ∷ xs) ys w (inr h) = inr (among_front xs ys w h)

pub among_back : {A : Type 0} (xs ys : List A) (w : A) → IsAmong ys w → IsAmong (xs ++ ys) w
among_back [] ys w h = h
among_back (x ∷ xs) ys w h = inr (among_back xs ys w h)

pub among_within : {A : Type 0} (xs : List A) (x : A) (ys : List A) (w : A) → IsAmong (xs ++ ys) w
    → IsAmong (xs ++ x ∷ ys) w
among_within [] x ys w h = inr h
among_within (y ∷ xs) x ys w (inl e) = inl e
among_within (y ∷ xs) x ys w (inr h) = inr (among_within xs x ys w h)

pub among_merged : (zs xs ys : List Waiting) (w : Waiting) → IsMerged zs xs ys → IsAmong xs w ⊎ IsAmong ys w
    → IsAmong zs w
among_merged [] xs ys w m (inl h) = subst (λ ws. IsAmong ws w) m.0 h
among_merged [] xs ys w m (inr h) = subst (λ ws. IsAmong ws w) m.1 h
among_merged (z ∷ zs) xs ys w (inl m) (inl h) =
    elim (subst (λ ws. IsAmong ws w) m.1 h) [ inl e ↦ inl e | inr k ↦ inr (among_merged zs m.0 ys w m.2 (inl k)) ]
among_merged (z ∷ zs) xs ys w (inl m) (inr h) = inr (among_merged zs m.0 ys w m.2 (inr h))
among_merged (z ∷ zs) xs ys w (inr m) (inl h) = inr (among_merged zs xs m.0 w m.2 (inl h))
among_merged (z ∷ zs) xs ys w (inr m) (inr h) =
    elim (subst (λ ws. IsAmong ws w) m.1 h) [ inl e ↦ inl e | inr k ↦ inr (among_merged zs xs m.0 w m.2 (inr k)) ]

pub among_counts : (ws : List Waiting) (w : Waiting) → IsAmong ws w → 1 ≤ count ws w.ticket
among_counts [] w h = absurd h
among_counts (x ∷ xs) w (inl e) = let s = one_same w.ticket in let k = ap (λ (v : Waiting). one v.ticket w.ticket) e in
    omega (arith, s, k)
among_counts (x ∷ xs) w (inr h) = let k = among_counts xs w h in omega (arith, k)

-- Tickets in order.

-- each ticket is above the earlier ones
abbrev pub Ascending : List Waiting → Type 0
Ascending [] = Unit {0}
Ascending (w ∷ ws) = ((v : Waiting) → IsAmong ws v → w.ticket < v.ticket) × Ascending ws

pub ascending_append : (ws : List Waiting) (w : Waiting) → Ascending ws
    → ((v : Waiting) → IsAmong ws v → v.ticket < w.ticket) → Ascending (ws ++ w ∷ [])
ascending_append [] w a last = ((λ v h. absurd h), tt)
ascending_append (x ∷ xs) w a last = (
  (λ v h. elim (among_last xs w v h) [
    | inl k ↦ a.0 v k
    | inr e ↦ subst (λ (z : Waiting). x.ticket < z.ticket) (sym e) (last x (inl refl))
  ]),
  ascending_append xs w a.1 (λ v h. last v (inr h)),
)

-- a ticket is that of one request
pub one_ticket : (ws : List Waiting) (v w : Waiting) → Ascending ws → IsAmong ws v → IsAmong ws w → v.ticket ≡ w.ticket
    → v ≡ w
one_ticket [] v w a h k e = absurd h
one_ticket (x ∷ xs) v w a (inl h) (inl k) e = h ∙ sym k
one_ticket (x ∷ xs) v w a (inl h) (inr k) e = let l = a.0 w k in let i = ap (λ (z : Waiting). z.ticket) h in
    absurd (omega (arith, l, i, e))
one_ticket (x ∷ xs) v w a (inr h) (inl k) e = let l = a.0 v h in let i = ap (λ (z : Waiting). z.ticket) k in
    absurd (omega (arith, l, i, e))
one_ticket (x ∷ xs) v w a (inr h) (inr k) e = one_ticket xs v w a.1 h k e

-- Requests one after the other.

pub turn_append : (f : Waiting → Sector → Sector) (xs ys : List Waiting) (v : Sector) → in_turn f (xs ++ ys) v
    ≡ in_turn f ys (in_turn f xs v)
turn_append f [] ys v = refl
turn_append f (x ∷ xs) ys v = turn_append f xs ys (f x v)

pub turn_same : (f g : Waiting → Sector → Sector) (ws : List Waiting)
    → ((w : Waiting) → IsAmong ws w → (v : Sector) → f w v ≡ g w v)
    → (v : Sector) → in_turn f ws v ≡ in_turn g ws v
turn_same f g [] same v = refl
turn_same f g (w ∷ ws) same v = turn_same f g ws (λ x h. same x (inr h)) (f w v)
    ∙ ap (in_turn g ws) (same w (inl refl) v)

pub turn_idle : (f : Waiting → Sector → Sector) (ws : List Waiting)
    → ((w : Waiting) → IsAmong ws w → (v : Sector) → f w v ≡ v)
    → (v : Sector) → in_turn f ws v ≡ v
turn_idle f [] idle v = refl
turn_idle f (w ∷ ws) idle v = turn_idle f ws (λ x h. idle x (inr h)) (f w v) ∙ idle w (inl refl) v

-- One request gets an effect, where none after it has one: it comes last.
pub turn_last : (f g : Waiting → Sector → Sector) (at : Waiting) (ws : List Waiting) → Ascending ws → IsAmong ws at
    → ((w : Waiting) → IsAmong ws w → w.ticket < at.ticket → (v : Sector) → g w v ≡ f w v)
    → ((w : Waiting) → IsAmong ws w → at.ticket ≤ w.ticket → (v : Sector) → f w v ≡ v)
    → ((w : Waiting) → IsAmong ws w → at.ticket < w.ticket → (v : Sector) → g w v ≡ v)
    → (v : Sector) → in_turn g ws v ≡ g at (in_turn f ws v)
turn_last f g at [] a h same idle_f idle_g v = absurd h
turn_last f g at (x ∷ xs) a (inl e) same idle_f idle_g v =
    let t : x.ticket ≡ at.ticket = ap (λ (z : Waiting). z.ticket) (sym e) in
    let later : (w : Waiting) → IsAmong xs w → at.ticket < w.ticket = λ w h. (let l = a.0 w h in omega (arith, l, t)) in
    let first : f x v ≡ v = idle_f x (inl refl) (omega (arith, t)) v in
    let old : in_turn f xs (f x v) ≡ v = turn_idle f xs
    (λ w h. idle_f w (inr h) (let l = later w h in omega (arith, l))) (f x v) ∙ first in
    let new : in_turn g xs (g x v) ≡ g x v = turn_idle g xs (λ w h. idle_g w (inr h) (later w h)) (g x v) in
    new ∙ ap (λ z. g z v) (sym e) ∙ ap (g at) (sym old)
turn_last f g at (x ∷ xs) a (inr h) same idle_f idle_g v =
    ap (in_turn g xs) (same x (inl refl) (a.0 at h) v)
    ∙ turn_last f g at xs a.1 h (λ w k. same w (inr k)) (λ w k. idle_f w (inr k)) (λ w k. idle_g w (inr k)) (f x v)

-- What one request does.

pub cond_no : (b : Bool) (x y : Sector) → b ≡ false → cond b x y ≡ y
cond_no true x y e = absurd cc
cond_no false x y e = refl

pub cond_yes : (b : Bool) (x y : Sector) → b ≡ true → cond b x y ≡ x
cond_yes true x y e = refl
cond_yes false x y e = absurd cc

cond_alike : (b : Bool) (x : Sector) → cond b x x ≡ x
cond_alike true x = refl
cond_alike false x = refl

pub effect_untouched : (info : Info) (part : Part) (sector : ℕ) (answer : ℕ → Option Answer) (is_new : ℕ → Bool)
    (w : Waiting) (v : Sector)
    → touches (change_of info w.request) part sector ≡ false → effect_at info part sector answer is_new w v ≡ v
effect_untouched info part sector answer is_new w v e = cond_no _ _ v e

pub effect_unanswered : (info : Info) (part : Part) (sector : ℕ) (answer : ℕ → Option Answer) (is_new : ℕ → Bool)
    (w : Waiting) (v : Sector)
    → answer w.ticket ≡ None → effect_at info part sector answer is_new w v ≡ v
effect_unanswered info part sector answer is_new w v e =
    ap (λ a. cond (touches (change_of info w.request) part sector)
    (settled a (is_new w.ticket) (value_of (change_of info w.request) sector) v) v) e
    ∙ cond_alike (touches (change_of info w.request) part sector) v

pub effect_same : (info : Info) (part : Part) (sector : ℕ) (old new : ℕ → Option Answer) (is_new was_new : ℕ → Bool)
    (w : Waiting) (v : Sector)
    → new w.ticket ≡ old w.ticket → is_new w.ticket ≡ was_new w.ticket → effect_at info part sector new is_new w v
    ≡ effect_at info part sector old was_new w v
effect_same info part sector old new is_new was_new w v e d =
    ap (λ a. cond (touches (change_of info w.request) part sector)
    (settled a (is_new w.ticket) (value_of (change_of info w.request) sector) v) v) e
    ∙ ap (λ b. cond (touches (change_of info w.request) part sector)
    (settled (old w.ticket) b (value_of (change_of info w.request) sector) v) v) d

pub effect_touched : (info : Info) (part : Part) (sector : ℕ) (answer : ℕ → Option Answer) (is_new : ℕ → Bool)
    (w : Waiting) (a : Answer) (v : Sector)
    → touches (change_of info w.request) part sector ≡ true → answer w.ticket ≡ Some a
    → effect_at info part sector answer is_new w v ≡ settled (Some a) (is_new w.ticket)
    (value_of (change_of info w.request) sector) v
effect_touched info part sector answer is_new w a v t e =
    cond_yes _ _ v t ∙ ap (λ o. settled o (is_new w.ticket) (value_of (change_of info w.request) sector) v) e

pub below_no : (n : ℕ) (f : Waiting → Sector → Sector) (w : Waiting) (v : Sector) → n ≤ w.ticket → below n f w v ≡ v
below_no n f w v l = cond_no _ _ v (le-ltb _ _ l)

pub below_same : (n : ℕ) (f g : Waiting → Sector → Sector) (w : Waiting) (v : Sector) → f w v ≡ g w v
    → below n f w v ≡ below n g w v
below_same n f g w v e = ap (λ x. cond (nat_lt w.ticket n) x v) e

pub below_idle : (n : ℕ) (f : Waiting → Sector → Sector) (w : Waiting) (v : Sector) → f w v ≡ v → below n f w v ≡ v
below_idle n f w v e = ap (λ x. cond (nat_lt w.ticket n) x v) e ∙ cond_alike (nat_lt w.ticket n) v

pub below_yes : (n : ℕ) (f : Waiting → Sector → Sector) (w : Waiting) (v : Sector) → w.ticket < n
    → below n f w v ≡ f w v
below_yes n f w v l = cond_yes _ _ v (lt-ltb _ _ l)

-- Conflicts at a sector.

pub length_pieces : (count : ℕ) (bytes : List ℕ) → length (pieces count bytes) ≡ count
length_pieces zero bytes = refl
length_pieces (suc count) bytes = ap suc (length_pieces count (drop 512 bytes))

not_true : (b : Bool) → (b ≡ true → ⊥) → b ≡ false
not_true true n = absurd (n refl)
not_true false n = refl

pub read_untouched : (info : Info) (request : Request) (part : Part) (sector : ℕ) → is_read request ≡ true
    → touches (change_of info request) part sector ≡ false
read_untouched info (Read p start count) part sector r =
    not_true _ (untouched (record { part = p; start = start; values = [] }) part sector refl)
read_untouched info (Write p start count bytes) part sector r = absurd cc
read_untouched info (Erase p start count) part sector r = absurd cc
read_untouched info (Trim p start count) part sector r = absurd cc

erased_names : (info : Info) (p part : Part) (start count sector : ℕ)
    → touches (erased_at info p start count) part sector ≡ true
    → (p ≡ part) × (start ≤ sector) × (sector < start + count)
erased_names info p part start count sector t =
    let n = length-replicate count (replicate 512 info.erased_byte) in
    let h = by_touch (part_number p) (part_number part) start sector _ t in
    (same_part p part h.0, h.1, omega (arith, h.2, n))

pub touched_names : (info : Info) (request : Request) (part : Part) (sector : ℕ)
    → touches (change_of info request) part sector ≡ true
    → Names request part sector × (is_read request ≡ false)
touched_names info (Read p start count) part sector t =
    absurd (untouched (record { part = p; start = start; values = [] }) part sector refl t)
touched_names info (Write p start count bytes) part sector t =
    let h = by_touch (part_number p) (part_number part) start sector (length (pieces count bytes)) t in
    let n = length_pieces count bytes in
    (record { part_is = same_part p part h.0; from = h.1; to = omega (arith, h.2, n) }, refl)
touched_names info (Erase p start count) part sector t =
    let h = erased_names info p part start count sector t in (record { part_is = h.0; from = h.1; to = h.2 }, refl)
touched_names info (Trim p start count) part sector t =
    let h = erased_names info p part start count sector t in (record { part_is = h.0; from = h.1; to = h.2 }, refl)
