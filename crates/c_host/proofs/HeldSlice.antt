-- The slice that `SectorsMut` holds by a `&mut`, lent for as long as a `&mut` to the struct lives.
--     reads_words    the slice's two words in the struct, to be read, and what is kept meanwhile
--     lends_slice    from these, the slice, and what the struct ends as
use Rattle.std.proofs.Common.{ℕ, ◌+◌, ◌*◌, ◌^◌, List, [], ◌∷◌, length, refl, ap, MutBor}
use seplogic.Ra.Ura.{Ura}
use base.Fraction.{full_share}
use base.Logic.{ent}
use base.Fml.{Fml, GName, Share, fat, fauth, fbor, flft, fobor, fobs, fsep}
use contract.BorrowLft.{◌⊑◌}
use contract.Lifetimes.{Lfts}
use mir.Syntax.{Ty, named, ty_ref, mut, ty_array, ty_int, w8, erased}
use mir.Val.{Val}
use types.Logic.{Logic}
use types.SemTy.{Body}
use types.Mut.{open_ref, close_ref}
use types.Kit.{Item, mean, ‵, ◌⊛◌, some, given, later, ◌$◌, ◌∵◌, !, qed, done, move, use1, use2, use3, split, split3}
use types.Kit.{join, fsplit3, fjoin3, feq_i, feq_l, flt_i, flt_l, pick, await, rewrite, updating, now, show, check}
use types.Kit.{group}
use denote.Array.{Array}
use denote.Follow.{follows, follows_then}
use denote.Memory.{mem, part_at}
use denote.RattleType.{RattleType}
use denote.Ref.{MutRef, at_last, mut_vals}
use denote.Signature.{named_lft}
use denote.Slice.{MutSlice, Room, slice_ty, slice_val}
use denote.Steps.{only}
use denote.Through.{lends_inner_slice, renamed}
use borrow.Follows.Field.{HandsTo, hands_on}
use borrow.Struct.Lend.{kept_record, put_record, record_apart, record_fill}
use borrow.Table.OneValue.{part_out_at, part_in_at}
use Rattle.c_host.specs.Run.{holding}
use Rattle.c_host.specs.declared.lent.SectorsMut.{SectorsMut}
use Rattle.c_host.specs.contracts.lent.SectorsMut.{struct, the_row, the_type}
use Rattle.c_host.proofs.Runs.{Block}
use Rattle.c_host.proofs.lent.SectorsMut.TheLaws.{the_loose}

-- The types of the struct, of its field, and of a slice's two words.
abbrev pub Whole : Lfts 2 → RattleType
Whole κs = the_row (named_lft 2 1 tt κs)

abbrev pub Held : Lfts 2 → RattleType
Held κs = MutSlice (named 1) κs.1.0 Block

abbrev pub words : Ty
words = slice_ty (ty_ref erased mut (ty_array (ty_int w8) 512))

abbrev put : SectorsMut → MutBor (List (List ℕ)) → SectorsMut
put lent blocks = record lent { blocks = blocks }

-- The struct hands on its field for as long as it is lent itself, and ends with what the field ends as.
hands : {M : Type 1} {𝓤 : Ura M} (𝓛 : Logic 𝓤) (κs : Lfts 2) (x : SectorsMut)
    → HandsTo 𝓛 (Whole κs) (Held κs) (λ o. o + 0) x x.blocks (put x)
hands 𝓛 κs x =
    let D = the_type (named_lft 2 1 tt κs) in
    let loose = the_loose (named_lft 2 1 tt κs) in
    let s = struct (record { mir = named 1; lft = [] }) in
    hands_on 𝓛 (Whole κs) (Held κs) 0 (λ (y : SectorsMut). y.blocks)
    (put_record D loose 0 0 s.as_values s.Ghost s.make (λ v. tt) (λ x. refl) (λ v g. refl) (λ x. x))
    (kept_record D loose 0 0 s.as_values s.Ghost s.make (λ v. tt) (λ x. refl) (λ v g. refl) (λ x. x))
    (record_fill D loose 0 0 s.as_values s.Ghost s.make (λ v. tt) (λ x. refl) (λ v g. refl) (λ x. x) refl (λ f. refl))
    (record_apart D loose 0 0 s.as_values s.Ghost s.make (λ v. tt) (λ x. refl) (λ v g. refl) (λ x. x) 𝓛 refl refl)
    x

module _ {M : Type 1} {𝓤 : Ura M} (𝓛 : Logic 𝓤) (κs : Lfts 2) (q : Share) (me : MutBor SectorsMut) where
  abbrev R : RattleType
  R = Whole κs

  abbrev F : RattleType
  F = Held κs

  abbrev b : ℕ
  b = me.ref_ptr.0

  abbrev o : ℕ
  o = me.ref_ptr.1 + 0

  abbrev held : MutBor (List (List ℕ))
  held = me.now.blocks

  abbrev value : Val
  value = slice_val held.ref_ptr (length held.now)

  -- what is kept while the words are read: the slice, the field's borrow, which is open, and what the struct ends as
  unfoldable pub Kept : GName → Fml
  Kept γ = fsep (F.own_val held (value ∷ []))
      (fsep (fsep (fobor κs.0 q (Body (mem F) b o γ)) (fsep (fobs γ (F.coded.code held)) (fauth γ (F.coded.code held))))
      (follows R F me.ghost_name γ (put me.now)))

  abbrev pub words_read : GName → Item 𝓤
  words_read γ = given (Room Block (length held.now)) (‵ (fat full_share words b o value) ⊛ ‵ (Kept γ))

  pub reads_words : ent 𝓤 (mean 𝓛 (‵ ((MutRef (named 0) κs.0 R).own_val me (mut_vals me)) ⊛ ‵ (flft κs.0 q)))
      (mean 𝓛 (later (some words_read)))
  unfolding Kept
  reads_words =
      qed 𝓛 (‵ ((MutRef (named 0) κs.0 R).own_val me (mut_vals me)) ∷ ‵ (flft κs.0 q) ∷ []) ∵
      updating ! $ fsplit3 ! $ feq_l ! (λ _.
      use3 𝓛 (later (some (λ (γ : GName). ‵ (fobs γ (F.coded.code held)) ⊛ ‵ (fbor κs.0 (Body (mem F) b o γ))
      ⊛ ‵ (flft κs.0 q) ⊛ ‵ (follows R F me.ghost_name γ (put me.now)))))
      (hands 𝓛 κs me.now κs.0 q me.ghost_name b me.ref_ptr.1) $ await ! tt $
      pick ! (λ γ. split3 ! $ move ! (2 ∷ []) $ split ! $ move ! (2 ∷ 3 ∷ 0 ∷ []) $
      -- [the field's obs and borrow; its token; the struct follows]
      open_ref ! tt (mem F) {b = b} {o = o} $
      use1 𝓛 (some (λ (v : Val). ‵ (fat full_share words b o v) ⊛ ‵ (F.own_val held (v ∷ []))))
      (part_out_at 𝓛 F refl full_share held b o words refl) $ pick ! (λ v. split ! $ move ! (1 ∷ []) $
      fsplit3 ! $ fsplit3 ! $ feq_l ! (λ is. flt_l ! (λ fits. flt_l ! (λ small.
      rewrite ! 2 (λ (u : Val). ‵ (fat full_share words b o u)) (ap only is) refl $
      flt_i ! (length held.now * (mem Block).size) (2 ^ 63) small $ flt_i ! (length held.now) (2 ^ 64) fits $
      feq_i ! (List Val) (value ∷ []) (value ∷ []) refl $ fjoin3 ! $ fjoin3 ! $
      -- [the slice; its words; the field's borrow, open; its obs and auth; the struct follows]
      move ! (2 ∷ 3 ∷ 4 ∷ []) $ fjoin3 ! $ move ! (1 ∷ 0 ∷ 3 ∷ []) $ fjoin3 ! $ move ! (1 ∷ 0 ∷ []) $ join ! $
      now ! $ show ! (λ γ'. mean 𝓛 (words_read γ')) γ $ check ! (fits, small) $ done !))))))

  -- the slice by another name, its token, and what the struct ends as
  abbrev pub slice_lent : GName → Item 𝓤
  slice_lent δ = ‵ ((MutSlice (named 0) κs.0 Block).own_val (renamed held δ) (value ∷ [])) ⊛ ‵ (flft κs.0 q)
      ⊛ ‵ (follows R (Array Block 0) me.ghost_name δ (holding me.now))

  pub lends_slice : (γ : GName) → κs.0 ⊑ κs.1.0 → Room Block (length held.now)
      → ent 𝓤 (mean 𝓛 (‵ (fat full_share words b o value) ⊛ ‵ (Kept γ))) (mean 𝓛 (later (some slice_lent)))
  unfolding Kept
  lends_slice γ outlives room =
      qed 𝓛 (‵ (fat full_share words b o value) ∷ ‵ (Kept γ) ∷ []) ∵ updating ! $ move ! (1 ∷ []) $ fsplit3 ! $
      move ! (3 ∷ 0 ∷ []) $ use2 𝓛 (‵ (part_at F full_share held b o))
      (part_in_at 𝓛 F refl full_share held b o words refl value) $ move ! (1 ∷ []) $ fsplit3 ! $
      move ! (3 ∷ []) $ close_ref ! tt (mem F) held {b = b} {o = o} $
      use3 𝓛 (later (some (λ (δ : GName). ‵ ((MutSlice (named 0) κs.0 Block).own_val (renamed held δ) (value ∷ []))
      ⊛ ‵ (flft κs.0 q) ⊛ ‵ (follows F (Array Block 0) γ δ (at_last held)))))
      (lends_inner_slice 𝓛 Block (named 0) (named 1) κs.0 κs.1.0
      (record { ref_ptr = (b, o); ghost_name = γ; now = held }) outlives room q) $ await ! tt $ pick ! (λ δ. split3 ! $
      -- [the slice; its token; the field follows; the struct follows]
      move ! (3 ∷ 2 ∷ []) $ use2 𝓛 (‵ (follows R (Array Block 0) me.ghost_name δ (holding me.now)))
      (follows_then 𝓛 R F (Array Block 0) (put me.now) (at_last held) me.ghost_name γ δ) $
      move ! (1 ∷ 2 ∷ 0 ∷ []) $ group ! 3 $ now ! $ show ! (λ δ'. mean 𝓛 (slice_lent δ')) δ $ done !)
