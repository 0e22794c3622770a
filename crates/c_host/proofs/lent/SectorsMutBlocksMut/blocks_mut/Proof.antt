-- A run of a slice that a struct holds by a `&mut`, as bytes: the struct's slice is lent, and of it the run.
use Rattle.std.proofs.Common.{ℕ, ◌+◌, ◌*◌, ◌<◌, ◌≤◌, ◌≡◌, List, [], ◌∷◌, length, refl, ap, w64, MutBor, arith}
use Rattle.std.proofs.raw_atomic.Walks.{proved}
use base.Logic.{id⊢, emp}
use base.Fml.{ftrue, flft}
use contract.Monad.{fact, fact_i}
use contract.Running.{tables}
use mir.Syntax.{named}
use mir.Val.{Val, vint}
use types.Part.{agg, sub, look_in, whole}
use types.Kit.{‵, raw, ◌⊛◌, some, later, ◌$◌, ◌∵◌, !, qed, done, move, drop, use0, use1, use2, split, split3, join}
use types.Kit.{fsplit, fjoin, feq_i, feq_l, pick, await, learn, suffices, frame}
use types.Run.{enter, of_opd, addr, load, fld, hop, stop, no_more, and_then, returns}
use types.ByLocal.{alloc_all, pass_all, free_all, look_at, get, through, sets, lands_as}
use denote.Array.{Array}
use denote.Builtin.{u8, usize}
use denote.Exit.{yes, no}
use denote.Follow.{follows, follows_then}
use denote.Plain.{uint_vals, uint_Tells}
use denote.Ref.{MutRef, mut_vals, mut_Tells}
use denote.Signature.{plain}
use denote.Slice.{MutSlice, mut_slice_vals, slice_val}
use denote.Steps.{nothing, heard, only}
use denote.Through.{renamed}
use denote.Triple.Call.{calls_at}
use denote.Triple.Clauses.{lasts}
use denote.Triple.Entry.{on_entry}
use denote.Triple.Spec.{triple_of}
use denote.Triple.Walked.{Stays, walk_of, says, stay_dropped, Goes-dropped, Goes-spent_ref, ends_at}
use denote.Triple.Table.{framed}
use Rattle.c_host.specs.Run.{holding, with_run}
use Rattle.c_host.proofs.HeldSlice.{Whole, lends_slice, reads_words, slice_lent, words_read}
use Rattle.c_host.proofs.Runs.{Block}
use Rattle.c_host.specs.contracts.lent.SectorsMutBlocksMut.blocks_mut as f
use Rattle.c_host.proofs.lent.SectorsMutBlocksMut.blocks_mut.Statement.{statement}
use Rattle.c_host.proofs.lent.SectorsMutBlocksMut.blocks_mut.Code as code
use Rattle.c_host.specs.contracts.lent.bytes_of as g
use Rattle.c_host.proofs.lent.bytes_of.Met.{met}

abbrev stayed : Stays f.ended.signature.params f.ended.kept
stayed = (stay_dropped _ no, (stay_dropped _ yes, (stay_dropped _ yes, tt)))

pub blocks_mut_spec : {M : Type 1} → statement M
blocks_mut_spec 𝓤 𝓛 𝓜 𝓡 wired =
    let c = f.clauses 𝓛 𝓜.mem 𝓡.returns in let W = walk_of 𝓛 f.ended stayed c in
    let number = Goes-dropped 𝓛 2 (plain (λ _. usize)) yes (λ κs x w. refl) in
    proved 𝓛 f.ended stayed c 𝓜 𝓡
    (Goes-spent_ref 𝓛 2 (0 ∷ []) tt (plain Whole), (number, (number, tt)))
    f.Key.name code.function (code.unfolded 𝓤 𝓛.H 𝓜 𝓡 wired)
    (λ κs. (mut_vals, (uint_vals w64, (uint_vals w64, tt))))
    (λ κs. (mut_Tells (named 0) κs.0 (Whole κs), (uint_Tells w64, (uint_Tells w64, tt))))
    (λ κs qs bounds a ghost are.
    let κ = κs.0 in let q = qs.0 in let me = a.0 in let i = a.1.0 in let n = a.1.1.0 in
    let xs = me.now.blocks in let R = Whole κs in
    let z : W.Ghost = ((κs, qs, bounds, a, (mut_vals me, (vint w64 i ∷ [], (vint w64 n ∷ [], tt)))), tt) in
    qed 𝓛 (raw (on_entry 𝓛 f.signature κs qs a z.0.4)
    ∷ (raw (fact 𝓤 (0 < n)) ⊛ raw (fact 𝓤 (i + n ≤ length xs.now))) ∷ []) ∵
    use1 𝓛 ((‵ (flft κ q) ⊛ ‵ (flft κs.1.0 qs.1.0) ⊛ ‵ ftrue)
    ⊛ ‵ ((MutRef (named 0) κ R).own_val me (mut_vals me)) ⊛ ‵ (usize.own_val i (vint w64 i ∷ []))
    ⊛ ‵ (usize.own_val n (vint w64 n ∷ [])) ⊛ ‵ ftrue) (id⊢ 𝓤 _) $
    move ! (1 ∷ []) $ split ! $ heard ! _ (λ some_asked. heard ! _ (λ inside.
    split ! $ split ! $ move ! (2 ∷ 0 ∷ []) $ split ! $ move ! (0 ∷ 2 ∷ []) $
    -- [the reference; its token; the numbers; the other token]
    enter ! _ _ _ _ _ $ alloc_all ! (λ l.
    pass_all ! refl ((tt, tt), ((tt, record { fits = are.1.0.1 }), ((tt, record { fits = are.1.1.0.1 }), tt))) $
    use2 𝓛 (later (some (words_read 𝓛 κs q me))) (reads_words 𝓛 κs q me) $ await ! tt $
    pick ! (λ γ. learn ! (λ room. split ! $
    -- [the slice's words; what is kept; the numbers; the other token]
    sets ! (of_opd ! (load ! (through ! refl (fld ! refl (fld ! refl (stop !))))
    (look_in ! 0 (sub ! 1 refl (whole !))))) refl (tt, record { fits = room.0 }) $
    sets ! (addr ! (through ! refl (fld ! refl (fld ! refl (hop ! (look_in ! 0 (sub ! 0 refl (whole !))) (stop !))))))
    refl (tt, tt) $
    sets ! (agg ! (and_then ! (get ! refl) (and_then ! (get ! refl) (no_more !))))
    refl (tt, (tt, (record { fits = room.0 }, tt))) $
    use2 𝓛 (later (some (slice_lent 𝓛 κs q me))) (lends_slice 𝓛 κs q me γ bounds.0 room) $ await ! tt $
    pick ! (λ δ. split3 ! $ move ! (2 ∷ []) $
    -- [the struct follows; the slice; its token; the numbers; the other token]
    let r : MutBor (List (List ℕ)) = renamed xs δ in
    let G = triple_of 𝓛 g.signature (g.spec 𝓛 𝓜.mem 𝓡.returns) in
    let z' : G.Ghost = (((κ, tt), (q, tt), tt, (r, a.1), (mut_slice_vals r, z.0.4.1)), tt) in
    move ! (1 ∷ 3 ∷ []) $ join ! $ nothing ! $ move ! (3 ∷ 0 ∷ []) $ join ! $ join ! $
    use0 𝓛 (raw (fact 𝓤 (i + n ≤ length xs.now))) (fact_i 𝓤 (i + n ≤ length xs.now) (emp 𝓤) inside) $
    move ! (1 ∷ 0 ∷ []) $ use2 𝓛 (raw (G.pre z')) (id⊢ 𝓤 _) $
    calls_at ! (framed 𝓤 𝓛.H 𝓜 (tables 𝓤 𝓛.H 𝓜 𝓡 𝓡.env)) G
    (met 𝓤 𝓛 𝓜 𝓡 (code.calls-c_host::lent::bytes_of 𝓡.env wired)) z'
    (and_then ! (get ! refl) (and_then ! (get ! refl) (and_then ! (get ! refl) (no_more !)))) (λ v'.
    use1 𝓛 (later (some (λ (s : MutBor (List ℕ)).
    ((‵ (flft κ q) ⊛ ‵ ftrue) ⊛ ‵ ((MutSlice (named 0) κ u8).own_val s (v' ∷ [])))
    ⊛ some (λ (ws : Unit {0} × (Unit {0} × (Unit {0} × Unit {0}))). ‵ (lasts g.ended z'.0.0 z'.0.3 ws)
    ⊛ (‵ (follows (Array Block 0) (Array u8 0) δ s.ghost_name (with_run xs.now i n))
    ⊛ raw (fact 𝓤 (length s.now ≡ 512 * n))))))) (id⊢ 𝓤 _) $
    await ! tt $ pick ! (λ s. split ! $ split ! $ move ! (1 ∷ []) $ fsplit ! $ fsplit ! $ feq_l ! (λ is'.
    -- [room; the bytes' borrow; its token; the clauses; the struct follows; the other token]
    move ! (3 ∷ []) $ pick ! (λ ws. split ! $ drop ! $ split ! $ move ! (1 ∷ []) $ heard ! _ (λ long.
    -- [the slice follows; room; the bytes' borrow; its token; the struct follows; the other token]
    lands_as ! (ap only is') refl (tt, (tt, (record { fits = omega (arith, long, inside, room.1) }, tt))) $
    move ! (4 ∷ 0 ∷ []) $
    use2 𝓛 (‵ (follows R (Array u8 0) me.ghost_name s.ghost_name (λ w. holding me.now (with_run xs.now i n w))))
    (follows_then 𝓛 R (Array Block 0) (Array u8 0) (holding me.now) (with_run xs.now i n)
    me.ghost_name δ s.ghost_name) $
    returns ! (look_at ! 0 refl) $ free_all ! refl $
    suffices ! _ (ends_at 𝓛 f.ended stayed c z (slice_val s.ref_ptr (length s.now)) s (tt, (tt, (tt, tt)))
    (tt, (tt, (tt, tt)))) $
    move ! (1 ∷ []) $ feq_i ! (List Val) (mut_slice_vals s) (mut_slice_vals s) refl $ fjoin ! $
    move ! (0 ∷ 2 ∷ []) $ fjoin ! $
    nothing ! $ nothing ! $ fjoin ! $ nothing ! $ fjoin ! $ nothing ! $ fjoin ! $ join ! $
    move ! (2 ∷ []) $ split ! $ move ! (0 ∷ 4 ∷ []) $ join ! $ move ! (1 ∷ []) $ drop ! $ join ! $
    frame ! $ says ! long $ done !))))))))))))
