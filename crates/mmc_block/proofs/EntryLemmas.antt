-- Lists of entries, and the requests that they hold.
use Rattle.std.proofs.Common.{◌&&◌, ◌∙◌, ◌∷◌, ◌≡◌, Bool, List, [], ap, arith, false, inl, inr, length}
use Rattle.std.proofs.Common.{not, refl, sym, true, ◌++◌}
use Rattle.std.proofs.lemmas.Bool.{and_parts, lt-ltb}
use Rattle.mmc_queue.specs.Group.{AreAlike as AreAlikeEntries, IsMerged as AreMerged, PassNone as EntriesPassNone}
use Rattle.mmc_queue.specs.Lent.{AreLent, IsLent}
use Rattle.mmc_queue.specs.Requests.{conflicts, kind_of, part_of}
use Rattle.mmc_queue.specs.Rule.{comes_first, passes_none}
use Rattle.mmc_queue.specs.declared.entry.Entry.{Entry}
use Rattle.mmc_queue.specs.declared.request.Request.{Request}
use Rattle.mmc_queue.specs.declared.extent.Extent.{Extent}
use Rattle.mmc_switch.specs.declared.info.Info.{Info}
use Rattle.mmc_block.specs.Entries.{AreServable, IsServable, waiting_of, waits_of}
use Rattle.mmc_block.specs.Groups.{AreOneKind, PassNone}
use Rattle.mmc_block.specs.Machine.{AreAlike, IsMerged, PassesNone, Waiting}
use Rattle.mmc_block.specs.Service.{AreAll, tries}

pub length-waits_of : (es : List Entry) → length (waits_of es) ≡ length es
length-waits_of [] = refl
length-waits_of (e ∷ es) = let n = length-waits_of es in omega (arith, n)

-- Entries that can be served.

pub servable_parts : (info : Info) (xs ys : List Entry) → AreServable info (xs ++ ys)
    → AreServable info xs × AreServable info ys
servable_parts info [] ys h = (tt, h)
servable_parts info (x ∷ xs) ys h = let k = servable_parts info xs ys h.1 in ((h.0, k.0), k.1)

pub servable_all : (info : Info) (xs ys : List Entry) → AreServable info xs → AreServable info ys
    → AreServable info (xs ++ ys)
servable_all info [] ys h k = k
servable_all info (x ∷ xs) ys h k = (h.0, servable_all info xs ys h.1 k)

pub merged_servable : (info : Info) (zs xs ys : List Entry) → AreMerged zs xs ys → AreServable info zs
    → AreServable info xs × AreServable info ys
merged_servable info [] xs ys m h = rw (m.0, m.1) (tt, tt)
merged_servable info (z ∷ zs) xs ys (inl m) h =
    let k = merged_servable info zs m.0 ys m.2 h.1 in rw m.1 ((h.0, k.0), k.1)
merged_servable info (z ∷ zs) xs ys (inr m) h =
    let k = merged_servable info zs xs m.0 m.2 h.1 in rw m.1 (k.0, (h.0, k.1))

-- The same said of requests.

pub merged_waits : (zs xs ys : List Entry) → AreMerged zs xs ys → IsMerged (waits_of zs) (waits_of xs) (waits_of ys)
merged_waits [] xs ys m = (ap waits_of m.0, ap waits_of m.1)
merged_waits (z ∷ zs) xs ys (inl m) = inl (waits_of m.0, ap waits_of m.1, merged_waits zs m.0 ys m.2)
merged_waits (z ∷ zs) xs ys (inr m) = inr (waits_of m.0, ap waits_of m.1, merged_waits zs xs m.0 m.2)

not_both : (before meets : Bool) → not (before && meets) ≡ true → before ≡ true → meets ≡ false
not_both true true h is = cc
not_both true false h is = refl
not_both false meets h is = absurd cc

one_passes : (e : Entry) (left : List Entry) → passes_none e left ≡ true → PassesNone (waiting_of e) (waits_of left)
one_passes e [] h = tt
one_passes e (v ∷ vs) h =
    let k = and_parts (not (comes_first v e)) (passes_none e vs) h in (
      (λ less. not_both _ (conflicts v.request e.request) k.0 (lt-ltb v.ticket e.ticket less)),
      one_passes e vs k.1,
    )

pub waits_pass : (es left : List Entry) → EntriesPassNone es left → PassNone (waits_of es) (waits_of left)
waits_pass [] left h = tt
waits_pass (e ∷ es) left h = (one_passes e left h.0, waits_pass es left h.1)

alike_by : (extent : Extent) (r : Request) (es : List Entry) → part_of r ≡ extent.part → kind_of r ≡ extent.kind
    → AreAlikeEntries extent es → AreAlike r (waits_of es)
alike_by run r [] p k h = tt
alike_by run r (e ∷ es) p k h = (h.0 ∙ sym p, h.1 ∙ sym k, alike_by run r es p k h.2)

pub one_kind_by : (extent : Extent) (es : List Entry) → AreAlikeEntries extent es → AreOneKind (waits_of es)
one_kind_by run [] h = tt
one_kind_by run (e ∷ es) h = alike_by run e.request es h.0 h.1 h.2

-- Entries whose buffers were lent.

lent_one : (old new : Entry) → IsLent old new → waiting_of new ≡ waiting_of old
lent_one old new h = rw (h.ticket, h.client, h.request) refl

pub lent_waits : (olds news : List Entry) → AreLent olds news → waits_of news ≡ waits_of olds
lent_waits [] [] h = refl
lent_waits [] (new ∷ news) h = absurd h
lent_waits (old ∷ olds) [] h = absurd h
lent_waits (old ∷ olds) (new ∷ news) h =
    ap (λ (w : Waiting). w ∷ waits_of news) (lent_one old new h.0)
    ∙ ap (λ (ws : List Waiting). waiting_of old ∷ ws) (lent_waits olds news h.1)

pub lent_length : (olds news : List Entry) → AreLent olds news → length news ≡ length olds
lent_length olds news h =
    sym (length-waits_of news) ∙ ap (λ (ws : List Waiting). length ws) (lent_waits olds news h) ∙ length-waits_of olds

lent_able : (info : Info) (old new : Entry) → IsLent old new → IsServable info old.request old.buffer
    → IsServable info new.request new.buffer
lent_able info old new h able = rw h.request (record {
  some = able.some;
  few = able.few;
  exists = able.exists;
  in_range = able.in_range;
  writable = able.writable;
  brought = able.brought;
  erasable = able.erasable;
  room = h.room ∙ able.room;
})

-- they can be served as before
pub lent_servable : (info : Info) (olds news : List Entry) → AreLent olds news → AreServable info olds
    → AreServable info news
lent_servable info [] [] h able = tt
lent_servable info [] (new ∷ news) h able = absurd h
lent_servable info (old ∷ olds) [] h able = absurd h
lent_servable info (old ∷ olds) (new ∷ news) h able =
    (lent_able info old new h.0 able.0, lent_servable info olds news h.1 able.1)

pub lent_tries : (olds news : List Entry) → AreLent olds news → tries news ≡ tries olds
lent_tries [] [] h = refl
lent_tries [] (new ∷ news) h = absurd h
lent_tries (old ∷ olds) [] h = absurd h
lent_tries (a ∷ []) (x ∷ []) h = refl
lent_tries (a ∷ []) (x ∷ y ∷ news) h = absurd h.1
lent_tries (a ∷ b ∷ olds) (x ∷ []) h = absurd h.1
lent_tries (a ∷ b ∷ olds) (x ∷ y ∷ news) h = refl

pub lent_are_all : (olds news others : List Entry) → AreLent olds news → AreAll olds others → AreAll news others
lent_are_all [] [] others h all = tt
lent_are_all [] (new ∷ news) others h all = absurd h
lent_are_all (old ∷ olds) [] others h all = absurd h
lent_are_all (a ∷ []) (x ∷ []) others h all = tt
lent_are_all (a ∷ []) (x ∷ y ∷ news) others h all = absurd h.1
lent_are_all (a ∷ b ∷ olds) (x ∷ []) others h all = absurd h.1
lent_are_all (a ∷ b ∷ olds) (x ∷ y ∷ news) others h all = all
