-- The blocks of a run as bytes: ghost steps lend them, and the code makes the two words of the slice.
use Rattle.std.proofs.Common.{◌+◌, ◌*◌, ◌^◌, ◌<◌, ◌≤◌, [], ◌∷◌, length, refl, w64, arith}
use Rattle.std.proofs.raw_atomic.Walks.{proved}
use Rattle.std.proofs.VecSteps.Shapes.{after}
use base.Logic.{id⊢}
use base.Fml.{ftrue, flft}
use contract.Monad.{fact}
use contract.Running.{tables}
use mir.Syntax.{named}
use mir.Val.{vint}
use types.Kit.{‵, raw, ◌⊛◌, some, later, at_ret, ◌$◌, ◌∵◌, !, qed, done, move, keep, use1, use2, split, split3, join}
use types.Kit.{fjoin, pick, await, learn, suffices, frame}
use types.Part.{agg, sub, whole}
use types.Run.{enter, of_opd, addr, bin, lit, fld, hop, stop, from, no_more, and_then, first, blocks, exec, returns}
use types.ByLocal.{alloc_all, pass_all, free_all, look_at, look_in_at, get, sets, sets_last, env}
use denote.Builtin.{usize}
use denote.Exit.{yes, no}
use denote.Plain.{uint_vals, uint_Tells}
use denote.Signature.{plain}
use denote.Slice.{MutSlice, mut_slice_vals, mut_slice_Tells, slice_val}
use denote.Steps.{nothing, heard}
use denote.Triple.Entry.{on_entry}
use denote.Triple.Walked.{Stays, walk_of, says, stay_dropped, Goes-dropped, Goes-spent_slice, ends_at}
use Rattle.c_host.specs.contracts.lent.bytes_of as f
use Rattle.c_host.proofs.lent.bytes_of.Statement.{statement}
use Rattle.c_host.proofs.lent.bytes_of.Code as code
use Rattle.c_host.proofs.Runs.{Block, lends_run, run_lent}

abbrev stayed : Stays f.ended.signature.params f.ended.kept
stayed = (stay_dropped _ no, (stay_dropped _ yes, (stay_dropped _ yes, tt)))

pub bytes_of_spec : {M : Type 1} → statement M
bytes_of_spec 𝓤 𝓛 𝓜 𝓡 wired =
    let c = f.clauses 𝓛 𝓜.mem 𝓡.returns in let W = walk_of 𝓛 f.ended stayed c in let 𝓣 = tables 𝓤 𝓛.H 𝓜 𝓡 𝓡.env in
    let number = Goes-dropped 𝓛 1 (plain (λ _. usize)) yes (λ κs x w. refl) in
    proved 𝓛 f.ended stayed c 𝓜 𝓡
    (Goes-spent_slice 𝓛 1 (0 ∷ []) tt (plain (λ _. Block)), (number, (number, tt)))
    f.Key.name code.function (code.unfolded 𝓤 𝓛.H 𝓜 𝓡 wired)
    (λ κs. (mut_slice_vals, (uint_vals w64, (uint_vals w64, tt))))
    (λ κs. (mut_slice_Tells (named 0) κs.0 Block, (uint_Tells w64, (uint_Tells w64, tt))))
    (λ κs qs bounds a g are.
    let κ = κs.0 in let q = qs.0 in let me = a.0 in let i = a.1.0 in let n = a.1.1.0 in
    let b = me.ref_ptr.0 in let o = me.ref_ptr.1 in let xs = me.now in let room = are.0.0.1 in
    let z : W.Ghost = ((κs, qs, bounds, a, (mut_slice_vals me, (vint w64 i ∷ [], (vint w64 n ∷ [], tt)))), tt) in
    qed 𝓛 (raw (on_entry 𝓛 f.signature κs qs a z.0.4) ∷ raw (fact 𝓤 (i + n ≤ length xs)) ∷ []) ∵
    use1 𝓛 ((‵ (flft κ q) ⊛ ‵ ftrue) ⊛ ‵ ((MutSlice (named 0) κ Block).own_val me (mut_slice_vals me))
    ⊛ ‵ (usize.own_val i (vint w64 i ∷ [])) ⊛ ‵ (usize.own_val n (vint w64 n ∷ [])) ⊛ ‵ ftrue) (id⊢ 𝓤 _) $
    move ! (1 ∷ []) $ heard ! _ (λ inside. split ! $ split ! $ move ! (2 ∷ 0 ∷ []) $ split ! $ move ! (0 ∷ 2 ∷ []) $
    -- [the slice; its token; the numbers]
    let at_fits : i * 512 < 2 ^ 64 = omega (arith, inside, room.1) in
    let fits : 512 * n < 2 ^ 64 = omega (arith, inside, room.1) in
    enter ! _ _ _ _ _ $ alloc_all ! (λ l. pass_all ! refl (
      (tt, (tt, (record { fits = room.0 }, tt))),
      ((tt, record { fits = are.1.0.1 }), ((tt, record { fits = are.1.1.0.1 }), tt)),
    ) $
    first ! $ blocks ! $
    sets ! (addr ! (from ! (fld ! refl (hop ! (look_in_at ! 1 (sub ! 0 refl (whole !))) (stop !))))) refl (tt, tt) $
    sets ! (bin ! (get ! refl) (lit ! tt) (record { fits = at_fits })) refl (tt, record { fits = at_fits }) $
    sets ! (bin ! (get ! refl) (get ! refl) tt) refl (tt, tt) $
    sets ! (of_opd ! (get ! refl)) refl (tt, tt) $
    sets ! (bin ! (lit ! tt) (get ! refl) (record { fits = fits })) refl (tt, record { fits = fits }) $
    sets_last ! (agg ! (and_then ! (get ! refl) (and_then ! (get ! refl) (no_more !)))) refl
    (tt, (tt, (record { fits = fits }, tt))) $
    exec ! 𝓣.C 𝓣.Λ (env code.Mir.locals l) (after 1 (code.function).body) (at_ret _ (W.post z)) $
    sets ! (of_opd ! (get ! refl)) refl (tt, (tt, (record { fits = fits }, tt))) $
    use2 𝓛 (later (some (run_lent 𝓛 b o xs i n inside κ q me.ghost_name)))
    (lends_run 𝓛 b o xs i n inside κ q me.ghost_name room.1 (mut_slice_vals me)) $
    await ! tt $ pick ! (λ r. learn ! (λ long.
    returns ! (look_at ! 0 refl) $ free_all ! refl $ keep ! (0 ∷ []) $ split3 ! $
    suffices ! _ (ends_at 𝓛 f.ended stayed c z (slice_val (b, i * 512 + o) (512 * n)) r (tt, (tt, (tt, tt)))
    (tt, (tt, (tt, tt)))) $
    nothing ! $ nothing ! $ fjoin ! $ nothing ! $ fjoin ! $ nothing ! $ fjoin ! $ join ! $
    nothing ! $ move ! (2 ∷ 0 ∷ []) $ join ! $ join ! $ frame ! $ says ! long $ done !)))))
