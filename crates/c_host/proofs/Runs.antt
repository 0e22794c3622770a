-- Blocks in memory are their bytes, side by side, and a run of them is lent as bytes.
use Rattle.std.proofs.Common.{◌≡◌, ℕ, zero, suc, ◌+◌, ◌*◌, ◌^◌, ◌<◌, ◌≤◌, List, [], ◌∷◌, ◌++◌, length, take, refl}
use Rattle.std.proofs.Common.{sym, ap, ◌∙◌, MutBor, arith}
use Rattle.std.specs.Prelude.{drop as skip}
use Rattle.std.specs.List.{flat_map}
use Rattle.std.specs.Simd.{first_chunks}
use Rattle.std.proofs.lemmas.List.{drop-drop, length-append, length-drop, length-take-le, take-append-drop}
use seplogic.Ra.Ura.{Ura}
use base.Fraction.{full_share}
use base.Logic.{SProp, ent, sep, guard, id⊢}
use base.Stored.{coded_list}
use base.Fml.{GName, Lft, Share, feq, fsep, flft, fobs, fbor}
use mir.Syntax.{named}
use mir.Val.{Val}
use types.Logic.{Logic, sem}
use types.Kit.{Item, mean, ‵, raw, ◌⊛◌, some, given, later, ◌$◌, ◌∵◌, !, qed, done, move, drop, use1, use2, split}
use types.Kit.{split3, join, fsplit, fsplit3, fjoin, feq_i, feq_l, pick, await, updating, now, show, learn, check}
use types.Kit.{rewrite, group}
use types.SemTy.{Arr, Body, cells}
use types.Follow.{takes_part}
use types.Mut.{open_ref}
use denote.Array.{Array}
use denote.Builtin.{u8}
use denote.Follow.{follows}
use denote.FollowSlice.{heres_id, slice_of}
use denote.Index.{row, whole_in, whole_out}
use denote.Memory.{mem, part_at}
use denote.RattleType.{RattleType}
use denote.RawPtr.Bytes.{bytes_apart, bytes_cut, bytes_glue, bytes_whole}
use denote.Slice.{MutSlice, Room, slice_val}
use borrow.Table.Elements.{at, at_mul, cut_app, join_app}
use Rattle.c_host.specs.Run.{with_run}
use Rattle.c_host.specs.RunLaws.{length_chunks}

abbrev pub Block : RattleType
Block = Array u8 512

abbrev pub all_bytes : List (List ℕ) → List ℕ
all_bytes blocks = flat_map (λ block. block) blocks

module _ {M : Type 1} {𝓤 : Ura M} (𝓛 : Logic 𝓤) (b : ℕ) where
  bytes_out : (ys : List (List ℕ)) (o : ℕ) → ent 𝓤 (sem 𝓛 (cells (mem Block) ys b o))
      (guard 𝓤 (length (all_bytes ys) ≡ 512 * length ys) (sem 𝓛 (row u8 full_share (all_bytes ys) b o)))
  bytes_out [] o = qed 𝓛 (‵ (cells (mem Block) [] b o) ∷ []) ∵ check ! refl $ done !
  bytes_out (y ∷ ys) o =
      let rest : List ℕ = all_bytes ys in
      qed 𝓛 (‵ (cells (mem Block) (y ∷ ys) b o) ∷ []) ∵ fsplit ! $
      use1 𝓛 (‵ (fsep (feq ℕ (length y) 512) (row u8 full_share y b o))) (bytes_apart 𝓛 full_share 512 y b o) $
      fsplit ! $ feq_l ! (λ long. move ! (1 ∷ []) $
      use1 𝓛 (given (length rest ≡ 512 * length ys) (‵ (row u8 full_share rest b (o + 512)))) (bytes_out ys (o + 512)) $
      learn ! (λ more.
      rewrite ! 0 (λ (n : ℕ). ‵ (row u8 full_share rest b (o + n))) (sym long) refl $ move ! (1 ∷ 0 ∷ []) $
      use2 𝓛 (‵ (row u8 full_share (y ++ rest) b o)) (bytes_glue 𝓛 full_share y rest b o) $
      check ! (omega (arith, long, more, length-append y rest)) $ done !))

  bytes_in : (count : ℕ) (xs : List ℕ) (o : ℕ) → length xs ≡ 512 * count
      → ent 𝓤 (sem 𝓛 (row u8 full_share xs b o)) (sem 𝓛 (cells (mem Block) (first_chunks 512 count xs) b o))
  bytes_in zero xs o all = qed 𝓛 (‵ (row u8 full_share xs b o) ∷ []) ∵ drop ! $ done !
  bytes_in (suc count) xs o all =
      let one : List ℕ = take 512 xs in let rest : List ℕ = skip 512 xs in
      let long : length one ≡ 512 = length-take-le 512 xs (omega (arith, all)) in
      qed 𝓛 (‵ (row u8 full_share xs b o) ∷ []) ∵
      rewrite ! 0 (λ (l : List ℕ). ‵ (row u8 full_share l b o)) (sym (take-append-drop 512 xs)) refl $
      use1 𝓛 (‵ (row u8 full_share one b o) ⊛ ‵ (row u8 full_share rest b (o + length one)))
      (bytes_cut 𝓛 full_share one rest b o) $ split ! $ feq_i ! ℕ (length one) 512 long $ fjoin ! $
      use1 𝓛 (‵ (part_at Block full_share one b o)) (bytes_whole 𝓛 full_share 512 one b o) $ move ! (1 ∷ []) $
      rewrite ! 0 (λ (n : ℕ). ‵ (row u8 full_share rest b (o + n))) long refl $
      use1 𝓛 (‵ (cells (mem Block) (first_chunks 512 count rest) b (o + 512)))
      (bytes_in count rest (o + 512) (omega (arith, all, length-drop 512 xs))) $ move ! (1 ∷ 0 ∷ []) $ fjoin ! $ done !

-- the blocks of a slice at (b, o): those before the run, its bytes, and those after it
module _ {M : Type 1} {𝓤 : Ura M} (𝓛 : Logic 𝓤) (b o : ℕ) (xs : List (List ℕ)) (first count : ℕ)
    (inside : first + count ≤ length xs) where
  abbrev front : List (List ℕ)
  front = take first xs

  abbrev run : List (List ℕ)
  run = take count (skip first xs)

  abbrev back : List (List ℕ)
  back = skip (first + count) xs

  abbrev bytes : List ℕ
  bytes = all_bytes run

  abbrev start : ℕ
  start = first * 512 + o

  front_long : length front ≡ first
  front_long = length-take-le first xs (omega (arith, inside))

  run_long : length run ≡ count
  run_long = length-take-le count (skip first xs) (omega (arith, inside, length-drop first xs))

  cut : xs ≡ front ++ (run ++ back)
  cut = sym (ap (λ ys. front ++ (run ++ ys)) (sym (drop-drop count first xs))
      ∙ ap (λ ys. front ++ ys) (take-append-drop count (skip first xs)) ∙ take-append-drop first xs)

  starts : at o 512 (length front) ≡ start
  starts = at_mul o 512 (length front) ∙ ap (λ n. n * 512 + o) front_long

  abbrev Others : SProp 𝓤
  Others = sep 𝓤 (sem 𝓛 (cells (mem Block) front b o)) (sem 𝓛 (cells (mem Block) back b (at start 512 count)))

  apart : ent 𝓤 (sem 𝓛 (cells (mem Block) xs b o)) (guard 𝓤 (length bytes ≡ 512 * count)
      (sep 𝓤 (sem 𝓛 (cells (mem u8) bytes b start)) Others))
  apart = qed 𝓛 (‵ (cells (mem Block) xs b o) ∷ []) ∵
      rewrite ! 0 (λ (l : List (List ℕ)). ‵ (cells (mem Block) l b o)) cut refl $
      use1 𝓛 (‵ (cells (mem Block) front b o) ⊛ ‵ (cells (mem Block) (run ++ back) b (at o 512 (length front))))
      (cut_app 𝓛 (mem Block) front (run ++ back) b o) $ split ! $ move ! (1 ∷ []) $
      rewrite ! 0 (λ (p : ℕ). ‵ (cells (mem Block) (run ++ back) b p)) starts refl $
      use1 𝓛 (‵ (cells (mem Block) run b start) ⊛ ‵ (cells (mem Block) back b (at start 512 (length run))))
      (cut_app 𝓛 (mem Block) run back b start) $ split ! $
      rewrite ! 1 (λ (n : ℕ). ‵ (cells (mem Block) back b (at start 512 n))) run_long refl $
      use1 𝓛 (given (length bytes ≡ 512 * length run) (‵ (row u8 full_share bytes b start)))
      (bytes_out 𝓛 b run start) $ learn ! (λ long.
      use1 𝓛 (‵ (cells (mem u8) bytes b start)) (whole_in 𝓛 u8 bytes b start) $
      move ! (2 ∷ 1 ∷ []) $ join ! $ move ! (1 ∷ 0 ∷ []) $ check ! (long ∙ ap (λ n. 512 * n) run_long) $ done !)

  together : length bytes ≡ 512 * count → (left : List ℕ)
      → ent 𝓤 (sep 𝓤 (sem 𝓛 ((Arr (mem u8) (length bytes)).own_at left b start)) Others)
      (sem 𝓛 ((Arr (mem Block) (length xs)).own_at (with_run xs first count left) b o))
  together long left =
      let chunks : List (List ℕ) = first_chunks 512 count left in
      let many : length chunks ≡ count = length_chunks count left in
      let outer = length-append front (chunks ++ back) in let inner = length-append chunks back in
      let after = length-drop (first + count) xs in
      let ends : List (List ℕ) = with_run xs first count left in
      let all : length ends ≡ length xs = omega (arith, inside, many, front_long, outer, inner, after) in
      qed 𝓛 (‵ ((Arr (mem u8) (length bytes)).own_at left b start) ∷ raw Others ∷ []) ∵ fsplit ! $ feq_l ! (λ same.
      use1 𝓛 (‵ (row u8 full_share left b start)) (whole_out 𝓛 u8 left b start) $
      use1 𝓛 (‵ (cells (mem Block) chunks b start)) (bytes_in 𝓛 b count left start (same ∙ long)) $ move ! (1 ∷ []) $
      use1 𝓛 (‵ (cells (mem Block) front b o) ⊛ ‵ (cells (mem Block) back b (at start 512 count))) (id⊢ 𝓤 _) $ split ! $
      rewrite ! 1 (λ (n : ℕ). ‵ (cells (mem Block) back b (at start 512 n))) (sym many) refl $ move ! (2 ∷ 1 ∷ []) $
      use2 𝓛 (‵ (cells (mem Block) (chunks ++ back) b start)) (join_app 𝓛 (mem Block) chunks back b start) $
      rewrite ! 0 (λ (p : ℕ). ‵ (cells (mem Block) (chunks ++ back) b p)) (sym starts) refl $ move ! (1 ∷ 0 ∷ []) $
      use2 𝓛 (‵ (cells (mem Block) ends b o)) (join_app 𝓛 (mem Block) front (chunks ++ back) b o) $
      feq_i ! ℕ (length ends) (length xs) all $ fjoin ! $ done !)

  module _ (κ : Lft) (q : Share) (γ : GName) where
    abbrev all : MutBor (List (List ℕ))
    all = record { ref_ptr = (b, o); ghost_name = γ; now = xs }

    abbrev lent : GName → MutBor (List ℕ)
    lent δ = record { ref_ptr = (b, start); ghost_name = δ; now = bytes }

    -- the run as bytes, the token, and what the whole slice ends as
    abbrev pub run_lent : MutBor (List ℕ) → Item 𝓤
    run_lent r = given (length r.now ≡ 512 * count)
        (‵ ((MutSlice (named 0) κ u8).own_val r (slice_val (b, start) (512 * count) ∷ [])) ⊛ ‵ (flft κ q)
        ⊛ ‵ (follows (Array Block 0) (Array u8 0) γ r.ghost_name (with_run xs first count)))

    pub lends_run : length xs * 512 < 2 ^ 63 → (vs : List Val)
        → ent 𝓤 (mean 𝓛 (‵ ((MutSlice (named 0) κ Block).own_val all vs) ⊛ ‵ (flft κ q)))
        (mean 𝓛 (later (some run_lent)))
    lends_run small vs =
        let Whole = Arr (mem Block) (length xs) in let Part = Arr (mem u8) (length bytes) in
        let Own = (MutSlice (named 0) κ u8).own_val in
        qed 𝓛 (‵ ((MutSlice (named 0) κ Block).own_val all vs) ∷ ‵ (flft κ q) ∷ []) ∵
        updating ! $ fsplit3 ! $ drop ! $
        rewrite ! 0 (λ (l : List (List ℕ)). ‵ (fobs γ ((coded_list Block.coded).code l))) (heres_id Block xs) refl $
        open_ref ! tt Whole {b = b} {o = o} $ fsplit ! $ drop ! $
        use1 𝓛 (given (length bytes ≡ 512 * count) (‵ (cells (mem u8) bytes b start) ⊛ raw Others)) apart $
        learn ! (λ long. split ! $ feq_i ! ℕ (length bytes) (length bytes) refl $ fjoin ! $
        let room : Room u8 (length bytes) = (omega (arith, long, inside, small), omega (arith, long, inside, small)) in
        move ! (2 ∷ 3 ∷ 4 ∷ 0 ∷ 1 ∷ []) $ group ! 5 $
        use1 𝓛 (later (some (λ (δ : GName).
        ‵ (fobs δ ((coded_list u8.coded).code bytes)) ⊛ ‵ (fbor κ (Body Part b start δ))
        ⊛ ‵ (flft κ q) ⊛ ‵ (follows (Array Block 0) (Array u8 0) γ δ (with_run xs first count)))))
        (takes_part 𝓛 Whole Part (with_run xs first count) κ q b o b start γ Others (together long)
        ((coded_list Block.coded).code xs) ((coded_list Block.coded).code xs) bytes) $ await ! tt $
        pick ! (λ δ. split3 ! $ use2 𝓛 (‵ (Own (lent δ) (slice_val (b, start) (length bytes) ∷ [])))
        (slice_of 𝓛 u8 (named 0) κ b start δ bytes room) $
        rewrite ! 0 (λ (n : ℕ). ‵ (Own (lent δ) (slice_val (b, start) n ∷ []))) long refl $
        now ! $ show ! (λ r. mean 𝓛 (run_lent r)) (lent δ) $ check ! long $ done !))
