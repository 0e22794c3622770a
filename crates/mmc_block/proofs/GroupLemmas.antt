-- Requests in service, sector by sector: what they may add, and what their effects make.
use Rattle.std.proofs.Common.{◌++◌, ◌∙◌, ◌∷◌, ◌≡◌, ◌⊎◌, ◌||◌, Bool, List, [], ap, cond, false, inl, inr, refl, subst}
use Rattle.std.proofs.Common.{sym, true, ℕ}
use Rattle.std.proofs.Math.Bool.{or-false, or_assoc}
use Rattle.std.proofs.lemmas.Bool.{or_parts}
use Rattle.std.specs.Prelude.{◌==◌}
use Rattle.mmc_card.specs.declared.part.Part.{Part}
use Rattle.mmc_card.specs.Sectors.{Change, IsDecided, IsIn, Sector, Sets, Within, changed, maybe_changed, touches}
use Rattle.mmc_card.specs.Sectors.{value_of}
use Rattle.mmc_queue.specs.declared.request.Request.{Request}
use Rattle.mmc_queue.specs.declared.request.Request.TheVariants.{Erase, Read, Trim, Write}
use Rattle.mmc_queue.specs.Requests.{is_read, kind_number, kind_of}
use Rattle.mmc_switch.specs.declared.info.Info.{Info}
use Rattle.mmc_block.specs.Changes.{change_of}
use Rattle.mmc_block.specs.Groups.{AllGive, IsChangeOf, any_touches}
use Rattle.mmc_block.specs.Machine.{AreAlike, NoneChanges, Waiting, all_failed, failed_effect}
use Rattle.mmc_block.proofs.OrderLemmas.{read_untouched}

-- Values of one sector.

pub in_as : {xs ys : List Sector} (v : Sector) → xs ≡ ys → IsIn xs v → IsIn ys v
in_as v e h = subst (λ (zs : List Sector). IsIn zs v) e h

only_one : (x v : Sector) → IsIn (x ∷ []) v → v ≡ x
only_one x v (inl e) = e
only_one x v (inr n) = absurd n

pub one_decided : (x : Sector) → IsDecided (x ∷ [])
one_decided x v w p q = only_one x v p ∙ sym (only_one x w q)

-- all values that a sector may hold keep their place after these
abbrev pub KeepsIn : (List Sector → List Sector) → Type 0
KeepsIn W = (xs : List Sector) (v : Sector) → IsIn xs v → IsIn (W xs) v

one_more : (b : Bool) (x : Sector) → KeepsIn (λ xs. cond b (x ∷ xs) xs)
one_more true x xs v h = inr h
one_more false x xs v h = h

-- Effects, one after the other.

-- with the new value of each of these that changes the sector
abbrev pub with_new : Info → List Waiting → Part → ℕ → List Sector → List Sector
with_new info [] p s xs = xs
with_new info (w ∷ ws) p s xs =
    let change : Change = change_of info w.request in
    with_new info ws p s (cond (touches change p s) (value_of change s ∷ xs) xs)

-- after each of these has taken effect
abbrev pub settled : Info → List Waiting → Part → ℕ → List Sector → List Sector
settled info [] p s xs = xs
settled info (w ∷ ws) p s xs =
    let change : Change = change_of info w.request in
    settled info ws p s (cond (touches change p s) (value_of change s ∷ []) xs)

abbrev pub settled_all : Info → List Waiting → Sets → Sets
settled_all info ws sets p s = settled info ws p s (sets p s)

pub failed_at : (info : Info) (ws : List Waiting) (sets : Sets) (p : Part) (s : ℕ)
    → all_failed info ws sets p s ≡ with_new info ws p s (sets p s)
failed_at info [] sets p s = refl
failed_at info (w ∷ ws) sets p s = failed_at info ws (failed_effect info w.request sets) p s

pub with_new-append : (info : Info) (ws os : List Waiting) (p : Part) (s : ℕ) (xs : List Sector)
    → with_new info (ws ++ os) p s xs ≡ with_new info os p s (with_new info ws p s xs)
with_new-append info [] os p s xs = refl
with_new-append info (w ∷ ws) os p s xs = with_new-append info ws os p s _

-- requests in service only add values
pub with_new-more : (info : Info) (ws : List Waiting) (p : Part) (s : ℕ) → KeepsIn (with_new info ws p s)
with_new-more info [] p s xs v h = h
with_new-more info (w ∷ ws) p s xs v h =
    let change : Change = change_of info w.request in
    with_new-more info ws p s _ v (one_more (touches change p s) (value_of change s) xs v h)

-- and none where none of them changes the sector
pub with_new-none : (info : Info) (ws : List Waiting) (p : Part) (s : ℕ) → any_touches info ws p s ≡ false
    → (xs : List Sector) → with_new info ws p s xs ≡ xs
with_new-none info [] p s h xs = refl
with_new-none info (w ∷ ws) p s h xs =
    let x = value_of (change_of info w.request) s in
    let k = or_parts (touches (change_of info w.request) p s) (any_touches info ws p s) h in
    ap (λ (b : Bool). with_new info ws p s (cond b (x ∷ xs) xs)) k.0 ∙ with_new-none info ws p s k.1 xs

pub settled-none : (info : Info) (ws : List Waiting) (p : Part) (s : ℕ) → any_touches info ws p s ≡ false
    → (xs : List Sector) → settled info ws p s xs ≡ xs
settled-none info [] p s h xs = refl
settled-none info (w ∷ ws) p s h xs =
    let x = value_of (change_of info w.request) s in
    let k = or_parts (touches (change_of info w.request) p s) (any_touches info ws p s) h in
    ap (λ (b : Bool). settled info ws p s (cond b (x ∷ []) xs)) k.0 ∙ settled-none info ws p s k.1 xs

settled-step : (b rest : Bool) (x : Sector) (S : List Sector → List Sector) (xs ys : List Sector) → (b || rest) ≡ true
    → (rest ≡ true → (xs ys : List Sector) → S xs ≡ S ys) → S (cond b (x ∷ []) xs) ≡ S (cond b (x ∷ []) ys)
settled-step true rest x S xs ys h same = refl
settled-step false rest x S xs ys h same = same h xs ys

-- what some of them change doesn't depend on what was there
pub settled-any : (info : Info) (ws : List Waiting) (p : Part) (s : ℕ) → any_touches info ws p s ≡ true
    → (xs ys : List Sector) → settled info ws p s xs ≡ settled info ws p s ys
settled-any info [] p s h xs ys = cc
settled-any info (w ∷ ws) p s h xs ys =
    settled-step (touches (change_of info w.request) p s) (any_touches info ws p s)
    (value_of (change_of info w.request) s) (settled info ws p s) xs ys h (settled-any info ws p s)

-- Which sectors are changed.

pub none_changes : (info : Info) (ws : List Waiting) (p : Part) (s : ℕ) → NoneChanges info ws p s
    → any_touches info ws p s ≡ false
none_changes info [] p s h = refl
none_changes info (w ∷ ws) p s h = rw h.0 (none_changes info ws p s h.1)

pub any-append : (info : Info) (ws os : List Waiting) (p : Part) (s : ℕ)
    → any_touches info (ws ++ os) p s ≡ (any_touches info ws p s || any_touches info os p s)
any-append info [] os p s = refl
any-append info (w ∷ ws) os p s =
    let t = touches (change_of info w.request) p s in
    ap (λ (b : Bool). t || b) (any-append info ws os p s)
    ∙ sym (or_assoc t (any_touches info ws p s) (any_touches info os p s))

-- a read changes nothing
pub read_changes_none : (info : Info) (r : Request) (p : Part) (s : ℕ) (xs : List Sector) → is_read r ≡ true
    → cond (touches (change_of info r) p s) (value_of (change_of info r) s ∷ []) xs ≡ xs
read_changes_none info r p s xs h =
    ap (λ (b : Bool). cond b (value_of (change_of info r) s ∷ []) xs) (read_untouched info r p s h)

read_kind : (r : Request) → is_read r ≡ (kind_number (kind_of r) == 0)
read_kind (Read part start count) = refl
read_kind (Write part start count bytes) = refl
read_kind (Erase part start count) = refl
read_kind (Trim part start count) = refl

read_alike : (r q : Request) → kind_of q ≡ kind_of r → is_read r ≡ true → is_read q ≡ true
read_alike r q e h = read_kind q ∙ ap (λ k. kind_number k == 0) e ∙ sym (read_kind r) ∙ h

pub reads_touch_none : (info : Info) (r : Request) (ws : List Waiting) (p : Part) (s : ℕ) → is_read r ≡ true
    → AreAlike r ws → any_touches info ws p s ≡ false
reads_touch_none info r [] p s h a = refl
reads_touch_none info r (w ∷ ws) p s h a =
    rw (read_untouched info w.request p s (read_alike r w.request a.1 h)) (reads_touch_none info r ws p s h a.2)

-- Where new values come from.

with_new-one : (b : Bool) (x : Sector) (W : List Sector → List Sector) (xs : List Sector) (v : Sector) → KeepsIn W
    → (((ys : List Sector) → IsIn (W ys) v) ⊎ IsIn (cond b (x ∷ xs) xs) v)
    → ((ys : List Sector) → IsIn (W (cond b (x ∷ ys) ys)) v) ⊎ IsIn xs v
with_new-one true x W xs v more (inl h) = inl (λ ys. h (x ∷ ys))
with_new-one true x W xs v more (inr (inl e)) = inl (λ ys. more (x ∷ ys) v (inl e))
with_new-one true x W xs v more (inr (inr k)) = inr k
with_new-one false x W xs v more (inl h) = inl h
with_new-one false x W xs v more (inr k) = inr k

-- a value there is a new one, or was there
pub with_new-from : (info : Info) (ws : List Waiting) (p : Part) (s : ℕ) (xs : List Sector) (v : Sector)
    → IsIn (with_new info ws p s xs) v → ((ys : List Sector) → IsIn (with_new info ws p s ys) v) ⊎ IsIn xs v
with_new-from info [] p s xs v i = inr i
with_new-from info (w ∷ ws) p s xs v i =
    with_new-one (touches (change_of info w.request) p s) (value_of (change_of info w.request) s)
    (with_new info ws p s) xs v (with_new-more info ws p s) (with_new-from info ws p s _ v i)

-- The members of a group as one change.

settled-one : (b rest : Bool) (y x : Sector) (S : List Sector → List Sector) (xs : List Sector) → (b ≡ true → y ≡ x)
    → ((zs : List Sector) → S zs ≡ cond rest (x ∷ []) zs)
    → S (cond b (y ∷ []) xs) ≡ cond (b || rest) (x ∷ []) xs
settled-one true true y x S xs e h = h (y ∷ [])
settled-one true false y x S xs e h = h (y ∷ []) ∙ ap (λ z. z ∷ []) (e refl)
settled-one false rest y x S xs e h = h xs

settled_by : (info : Info) (ws : List Waiting) (p : Part) (s : ℕ) (x : Sector) → AllGive info ws p s x
    → (xs : List Sector) → settled info ws p s xs ≡ cond (any_touches info ws p s) (x ∷ []) xs
settled_by info [] p s x g xs = refl
settled_by info (w ∷ ws) p s x g xs =
    settled-one (touches (change_of info w.request) p s) (any_touches info ws p s)
    (value_of (change_of info w.request) s) x (settled info ws p s) xs g.0 (settled_by info ws p s x g.1)

pub group_changed : (info : Info) (c : Change) (ws : List Waiting) (sets : Sets) → IsChangeOf info ws c
    → (p : Part) (s : ℕ) → changed c sets p s ≡ settled info ws p s (sets p s)
group_changed info c ws sets k p s =
    sym (settled_by info ws p s (value_of c s) (k.given p s) (sets p s)
    ∙ ap (λ (b : Bool). cond b (value_of c s ∷ []) (sets p s)) (k.touched p s))

has-one : (b rest : Bool) (y x : Sector) (W : List Sector → List Sector) (xs : List Sector) → KeepsIn W
    → (b ≡ true → y ≡ x) → (b || rest) ≡ true → (rest ≡ true → (zs : List Sector) → IsIn (W zs) x)
    → IsIn (W (cond b (y ∷ xs) xs)) x
has-one true rest y x W xs more e h k = more (y ∷ xs) x (inl (sym (e refl)))
has-one false rest y x W xs more e h k = k h xs

with_new-has : (info : Info) (ws : List Waiting) (p : Part) (s : ℕ) (x : Sector) → AllGive info ws p s x
    → any_touches info ws p s ≡ true → (xs : List Sector) → IsIn (with_new info ws p s xs) x
with_new-has info [] p s x g h xs = cc
with_new-has info (w ∷ ws) p s x g h xs =
    has-one (touches (change_of info w.request) p s) (any_touches info ws p s)
    (value_of (change_of info w.request) s) x (with_new info ws p s) xs (with_new-more info ws p s) g.0 h
    (with_new-has info ws p s x g.1)

maybe-one : (t : Bool) (x : Sector) (W : List Sector → List Sector) (xs : List Sector) → KeepsIn W
    → (t ≡ true → IsIn (W xs) x) → (v : Sector) → IsIn (cond t (x ∷ xs) xs) v → IsIn (W xs) v
maybe-one true x W xs more has v (inl e) = subst (λ (u : Sector). IsIn (W xs) u) (sym e) (has refl)
maybe-one true x W xs more has v (inr i) = more xs v i
maybe-one false x W xs more has v i = more xs v i

-- what an unfinished run of the group may leave is what a failure of each member may leave
pub group_maybe : (info : Info) (c : Change) (ws : List Waiting) (sets : Sets) → IsChangeOf info ws c
    → (p : Part) (s : ℕ) (v : Sector) → IsIn (maybe_changed c sets p s) v → IsIn (with_new info ws p s (sets p s)) v
group_maybe info c ws sets k p s =
    maybe-one (touches c p s) (value_of c s) (with_new info ws p s) (sets p s) (with_new-more info ws p s)
    (λ t. with_new-has info ws p s (value_of c s) (k.given p s) (k.touched p s ∙ t) (sets p s))

-- In the middle of a run, and after a failed attempt, the card is within what the machine allows with those in service.
pub still_within : (info : Info) (c : Change) (ws os : List Waiting) (old new sets : Sets) → IsChangeOf info ws c
    → Within new (maybe_changed c old) → Within old (all_failed info (ws ++ os) sets)
    → Within new (all_failed info (ws ++ os) sets)
still_within info c ws os old new sets k left within p s v i =
    elim (with_new-from info ws p s (old p s) v (group_maybe info c ws old k p s v (left p s v i))) [
      | inl h ↦ in_as v (sym (failed_at info (ws ++ os) sets p s ∙ with_new-append info ws os p s (sets p s)))
          (with_new-more info os p s _ v (h (sets p s)))
      | inr h ↦ within p s v h
    ]

-- going into service allows more
pub within_more : (info : Info) (ws : List Waiting) (old sets : Sets) → Within old sets
    → Within old (all_failed info ws sets)
within_more info ws old sets h p s v i =
    in_as v (sym (failed_at info ws sets p s)) (with_new-more info ws p s (sets p s) v (h p s v i))

-- a request alone is its own change
pub one_change : (info : Info) (w : Waiting) → IsChangeOf info (w ∷ []) (change_of info w.request)
one_change info w = record {
  touched = λ p s. or-false (touches (change_of info w.request) p s);
  given = λ p s. (λ t. refl, tt);
}
