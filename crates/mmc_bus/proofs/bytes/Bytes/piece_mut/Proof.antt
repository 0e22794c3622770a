use Rattle.std.proofs.Common.{◌≡◌, ℕ, ◌+◌, ◌*◌, List, [], ◌∷◌, length, refl, ap, ◌∙◌, w64, MutBor, arith}
use Rattle.std.specs.Prelude.{slice_range}
use Rattle.std.proofs.raw_atomic.Walks.{proved}
use base.Logic.{id⊢, emp}
use base.Fml.{ftrue, flft}
use mir.Syntax.{named}
use mir.Val.{Val, vint, vptr}
use contract.Monad.{fact, fact_i}
use contract.Running.{tables}
use types.Kit.{‵, raw, ◌⊛◌, some, later, ◌$◌, ◌∵◌, !, qed, done, move, drop, use0, use1, use2, split, join, fsplit, fjoin, feq_i, feq_l, pick, await, suffices, frame}
use types.Run.{enter, addr, stop, no_more, and_then, returns}
use types.ByLocal.{alloc_all, pass_all, free_all, look_at, get, through, sets, lands_as}
use denote.Builtin.{u8, usize}
use denote.Exit.{yes, no}
use denote.Plain.{uint_vals, uint_Tells}
use denote.Ref.{MutRef, mut_vals, mut_Tells}
use denote.Array.{Array}
use denote.Slice.{MutSlice, mut_slice_vals}
use denote.Signature.{plain, mut_ref_to}
use denote.Follow.{follows, follows_then}
use denote.Steps.{nothing, heard, only}
use denote.Triple.Call.{calls_at}
use denote.Triple.Clauses.{lasts}
use denote.Triple.Spec.{triple_of}
use denote.Triple.Walked.{Stays, says, stay_dropped, Goes-dropped, Goes-spent_ref, ends_at}
use denote.Triple.Table.{framed}
use Rattle.mmc_bus.specs.Bytes.{with_part}
use Rattle.mmc_bus.specs.contracts.bytes.Bytes.{the_row as R}
use Rattle.mmc_bus.specs.contracts.bytes.Bytes.piece_mut as f
use Rattle.mmc_bus.proofs.bytes.Bytes.piece_mut.Statement.{statement}
use Rattle.mmc_bus.proofs.bytes.Bytes.piece_mut.Code as code
use Rattle.mmc_bus.specs.contracts.bytes.Bytes.slice_mut as g
use Rattle.mmc_bus.proofs.bytes.Bytes.slice_mut.Met.{met}
use Rattle.mmc_bus.specs.contracts.bytes.as_block_mut as h
use Rattle.mmc_bus.proofs.bytes.as_block_mut.Met.{met as met'}

abbrev stayed : Stays f.ended.signature.params f.ended.kept
stayed = (stay_dropped (mut_ref_to (0 ∷ []) tt (plain (λ _. R))) no, (stay_dropped (plain (λ _. usize)) yes, tt))

pub piece_mut_spec : {M : Type 1} → statement M
piece_mut_spec 𝓤 𝓛 𝓜 𝓡 wired =
    let c = f.clauses 𝓛 𝓜.mem 𝓡.returns in
    proved 𝓛 f.ended stayed c 𝓜 𝓡 (Goes-spent_ref 𝓛 1 (0 ∷ []) tt (plain (λ _. R)), (Goes-dropped 𝓛 1 (plain (λ _. usize)) yes (λ κs x w. refl), tt))
    f.Key.name code.function (code.unfolded 𝓤 𝓛.H 𝓜 𝓡 wired)
    (λ κs. (mut_vals, (uint_vals w64, tt))) (λ κs. (mut_Tells (named 0) κs.0 R, (uint_Tells w64, tt))) (λ κs qs bounds a n are.
    let κ = κs.0 in let q = qs.0 in let me = a.0 in let i = a.1.0 in
    let G = triple_of 𝓛 g.signature (g.spec 𝓛 𝓜.mem 𝓡.returns) in
    let z : G.Ghost = ((κs, qs, bounds, a, (mut_vals me, (vint w64 i ∷ [], tt))), tt) in
    qed 𝓛 (raw (G.pre z) ∷ []) ∵ enter ! _ _ _ _ _ $
    alloc_all ! (λ l. pass_all ! refl ((tt, tt), ((tt, record { fits = are.1.0.1 }), tt)) $
    sets ! (addr ! (through ! refl (stop !))) refl (tt, tt) $
    calls_at ! (framed 𝓤 𝓛.H 𝓜 (tables 𝓤 𝓛.H 𝓜 𝓡 𝓡.env)) G (met 𝓤 𝓛 𝓜 𝓡 (code.calls-mmc_bus::bytes::Bytes::slice_mut 𝓡.env wired)) z
    (and_then ! (get ! refl) (and_then ! (get ! refl) (no_more !))) (λ v.
    use1 𝓛 (later (some (λ (r : MutBor (List ℕ)). ((‵ (flft κ q) ⊛ ‵ ftrue) ⊛ ‵ ((MutSlice (named 0) κ u8).own_val r (v ∷ []))) ⊛
    some (λ (ws : Unit {0} × (Unit {0} × Unit {0})). ‵ (lasts g.ended κs a ws) ⊛ (‵ (follows R (Array u8 0) me.ghost_name r.ghost_name (with_part me.now (512 * i))) ⊛ (raw (fact 𝓤 (r.now ≡ slice_range me.now (512 * i) (512 * i + 512))) ⊛ raw (fact 𝓤 (length r.now ≡ 512)))))))) (id⊢ 𝓤 _) $
    await ! tt $ pick ! (λ r. split ! $ split ! $ move ! (1 ∷ []) $ fsplit ! $ fsplit ! $ feq_l ! (λ is.
    -- [room; the slice's borrow; tokens; the clauses; the locals]
    move ! (3 ∷ []) $ pick ! (λ ws. split ! $ drop ! $ split ! $ move ! (1 ∷ []) $ split ! $ heard ! _ (λ value. heard ! _ (λ long.
    -- [follows; room; the slice's borrow; tokens; the locals]
    lands_as ! (ap only is) refl (tt, (tt, (record { fits = omega (arith, long) }, tt))) $
    let G' = triple_of 𝓛 h.signature (h.spec 𝓛 𝓜.mem 𝓡.returns) in
    let z' : G'.Ghost = (((κ, tt), (q, tt), tt, (r, tt), (mut_slice_vals r, tt)), tt) in
    move ! (1 ∷ []) $ feq_i ! (List Val) (mut_slice_vals r) (mut_slice_vals r) refl $ fjoin ! $ move ! (0 ∷ 2 ∷ []) $ fjoin ! $
    nothing ! $ move ! (1 ∷ 0 ∷ []) $ join ! $ move ! (2 ∷ 0 ∷ []) $ join ! $
    use0 𝓛 (raw (fact 𝓤 (length r.now ≡ 512))) (fact_i 𝓤 (length r.now ≡ 512) (emp 𝓤) long) $ move ! (1 ∷ 0 ∷ []) $
    use2 𝓛 (raw (G'.pre z')) (id⊢ 𝓤 _) $
    calls_at ! (framed 𝓤 𝓛.H 𝓜 (tables 𝓤 𝓛.H 𝓜 𝓡 𝓡.env)) G' (met' 𝓤 𝓛 𝓜 𝓡 (code.calls-mmc_bus::bytes::as_block_mut 𝓡.env wired)) z'
    (and_then ! (get ! refl) (no_more !)) (λ v'.
    use1 𝓛 (later (some (λ (s : MutBor (List ℕ)). ((‵ (flft κ q) ⊛ ‵ ftrue) ⊛ ‵ ((MutRef (named 0) κ (Array u8 512)).own_val s (v' ∷ []))) ⊛
    some (λ (ws' : Unit {0} × Unit {0}). ‵ (lasts h.ended κs (r, tt) ws') ⊛ (‵ (follows (Array u8 0) (Array u8 0) r.ghost_name s.ghost_name (λ w. w)) ⊛ raw (fact 𝓤 (s.now ≡ r.now))))))) (id⊢ 𝓤 _) $
    await ! tt $ pick ! (λ s. split ! $ split ! $ move ! (1 ∷ []) $ fsplit ! $ feq_l ! (λ is'.
    -- [the array's borrow; tokens; the clauses; follows; the locals]
    lands_as ! (ap only is') refl (tt, tt) $
    move ! (2 ∷ []) $ pick ! (λ ws'. split ! $ drop ! $ split ! $ move ! (1 ∷ []) $ heard ! _ (λ same.
    -- [follows'; the array's borrow; tokens; follows; the locals]
    move ! (3 ∷ 0 ∷ []) $
    use2 𝓛 (‵ (follows R (Array u8 0) me.ghost_name s.ghost_name (with_part me.now (512 * i)))) (follows_then 𝓛 R (Array u8 0) (Array u8 0) (with_part me.now (512 * i)) (λ w. w) me.ghost_name r.ghost_name s.ghost_name) $
    returns ! (look_at ! 0 refl) $ free_all ! refl $
    suffices ! _ (ends_at 𝓛 f.ended stayed c z (vptr s.ref_ptr.0 s.ref_ptr.1) s (tt, (tt, tt)) (tt, (tt, tt))) $
    move ! (1 ∷ []) $ feq_i ! (List Val) (mut_vals s) (mut_vals s) refl $ fjoin ! $
    nothing ! $ nothing ! $ fjoin ! $ nothing ! $ fjoin ! $ join ! $ move ! (2 ∷ 0 ∷ []) $ join ! $ frame ! $ says ! (same ∙ value) $ done !)))))))))))))
