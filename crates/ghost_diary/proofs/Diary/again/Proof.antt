-- `again` picks the entries of the diary that it is given. Assumes `Logic`.
use Rattle.std.proofs.Common.{[], ◌∷◌, refl}
use Rattle.std.proofs.raw_atomic.Walks.{proved}
use mir.MapTy.{inst_fn}
use mir.Syntax.{a_type, named}
use mir.Val.{Val, vptr}
use base.Logic.{SProp}
use contract.Running.{tables}
use types.Kit.{‵, raw, ◌⊛◌, ◌$◌, ◌∵◌, !, qed, done, move, keep, split, fjoin, suffices}
use types.Part.{agg}
use types.Run.{enter, no_more, and_then, returns}
use types.ByLocal.{alloc_all, pass_all, free_all, look_at, get, sets}
use denote.Exit.{yes}
use denote.RattleType.{owns}
use denote.Builtin.{RefOf}
use denote.Laws.{Is}
use denote.Param.{param, layouts}
use denote.Ref.{shr_Tells, shr_vals}
use denote.Signature.{plain, types_at}
use denote.Steps.{nothing, owned}
use denote.Struct.Laws.{makes}
use denote.Triple.Entry.{alive}
use denote.Triple.Walked.{says, Stays, stay_dropped, walk_of, ends_at, Goes-dropped}
use Rattle.std.specs.contracts.marker.PhantomData as Mark
use Rattle.ghost_diary.proofs.Walks.{none, one, one_made}
use Rattle.ghost_diary.specs.contracts.Diary.{the_row}
use Rattle.ghost_diary.specs.contracts.Diary.again.{clauses, ended}
use Rattle.ghost_diary.specs.contracts.Diary.again.Key.{name as #self}
use Rattle.ghost_diary.proofs.Diary.again.Statement.{statement}
use Rattle.ghost_diary.proofs.Diary.again.Code as code

pub again_spec : {M : Type 1} → statement M
again_spec 𝓤 𝓛 𝓜 𝓡 wired E L =
    let 𝓣 = tables 𝓤 𝓛.H 𝓜 𝓡 𝓡.env in
    let inst = layouts (a_type ∷ []) (E, tt) in
    let function = inst_fn inst code.function in
    let f = ended E in
    let held = clauses E 𝓛 𝓜.mem 𝓡.returns in
    let mark = Mark.the_row (param 0 E) in
    let before = RefOf (0 ∷ []) tt (plain (λ _. the_row (param 0 E))) (λ _. tt) in
    let stayed : Stays f.signature.params f.kept = (stay_dropped before yes, tt) in
    proved 𝓛 f stayed held 𝓜 𝓡
    (Goes-dropped 𝓛 2 before yes (λ κs x w. refl), tt) (#self inst) function
    (code.unfolded 𝓤 𝓛.H 𝓜 𝓡 wired (E, tt)) (λ κs. (shr_vals, tt))
    (λ κs. (shr_Tells (named 0) κs.0 (the_row (param 0 E)), tt))
    (λ κs qs bounds a n are.
    let at : Val = vptr a.0.ref_ptr.0 a.0.ref_ptr.1 in
    let diary : (the_row (param 0 E)).Denot = record { of = record {}; past = a.0.now.past } in
    let z : (walk_of 𝓛 f stayed held).Ghost = ((κs, qs, bounds, a, (at ∷ [], tt)), n) in
    let Post : Val → SProp 𝓤 = (walk_of 𝓛 f stayed held).post z in
    qed 𝓛 ((raw (alive 𝓛 f.signature κs qs) ⊛ ‵ (owns (types_at f.signature.params κs) a z.0.4)) ∷ raw ((held κs a).requires n) ∷ []) ∵
    split ! $ keep ! (0 ∷ []) $
    enter ! 𝓣.C 𝓣.Λ function (at ∷ []) Post $ alloc_all ! (λ l. pass_all ! refl ((tt, tt), tt) $
    sets ! (agg ! (no_more !)) refl (tt, tt) $
    sets ! (agg ! (and_then ! (get ! refl) (no_more !))) refl (tt, (tt, tt)) $
    nothing ! $ owned ! mark (Is mark) (makes (Mark.the_type (param 0 E)) tt 𝓛) (record {}) (none ∷ []) (tt, (refl, tt)) $
    one_made ! mark (record {}) none $ fjoin ! $
    returns ! (look_at ! 0 refl) $ free_all ! refl $
    suffices ! _ (ends_at 𝓛 f stayed held z (one none) diary (tt, tt) (tt, tt)) $ says ! refl $
    nothing ! $ nothing ! $ fjoin ! $ move ! (2 ∷ 0 ∷ 1 ∷ []) $ done !))
