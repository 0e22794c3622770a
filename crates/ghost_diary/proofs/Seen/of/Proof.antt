-- `of` picks what the note says. Assumes `Logic`.
use Rattle.std.proofs.Common.{[], ◌∷◌, refl}
use Rattle.std.proofs.raw_atomic.Walks.{proved}
use mir.MapTy.{inst_fn}
use mir.Syntax.{a_type, dcons, dnil, named}
use mir.Val.{Val, vptr}
use base.Logic.{SProp}
use base.Fml.{ftrue, fsep}
use contract.Running.{tables}
use types.Kit.{‵, raw, ◌⊛◌, ◌$◌, ◌∵◌, !, qed, done, move, keep, split, fjoin, fpack, suffices}
use types.Part.{agg}
use types.Run.{enter, no_more, and_then, returns}
use types.ByLocal.{alloc_all, pass_all, free_all, look_at, get, sets}
use denote.Exit.{yes}
use denote.RattleType.{owns}
use denote.Builtin.{RefOf}
use denote.Laws.{Is}
use denote.Model.{viewed}
use denote.Param.{bounded, param}
use denote.Ref.{shr_Tells, shr_vals}
use denote.Signature.{plain, types_at}
use denote.Steps.{nothing, owned}
use denote.Struct.Laws.{makes}
use denote.Triple.Entry.{alive}
use denote.Triple.Walked.{says, Stays, stay_dropped, walk_of, ends_at, Goes-dropped}
use Rattle.std.specs.contracts.marker.PhantomData as Mark
use Rattle.ghost_diary.proofs.Walks.{none, one, one_made}
use Rattle.ghost_diary.specs.contracts.Seen.{the_view, the_invariant}
use Rattle.ghost_diary.specs.contracts.Seen.TheInside
use Rattle.ghost_diary.specs.contracts.Seen.of.{clauses, ended}
use Rattle.ghost_diary.specs.contracts.Seen.of.Key.{name as #self}
use Rattle.ghost_diary.proofs.Seen.of.Statement.{statement}
use Rattle.ghost_diary.proofs.Seen.of.Code as code

pub of_spec : {M : Type 1} → statement M
of_spec 𝓤 𝓛 𝓜 𝓡 wired V N LV LN g d met =
    let 𝓣 = tables 𝓤 𝓛.H 𝓜 𝓡 𝓡.env in
    let inst = bounded (a_type ∷ a_type ∷ []) (V, (N, tt)) (dcons d dnil) in
    let function = inst_fn inst code.function in
    let f = ended V N g d in
    let held = clauses V N g d 𝓛 𝓜.mem 𝓡.returns in
    let mark = Mark.the_row (param 0 V) in
    let note = RefOf (0 ∷ []) tt (plain (λ _. param 1 N)) (λ _. tt) in
    let stayed : Stays f.signature.params f.kept = (stay_dropped note yes, tt) in
    proved 𝓛 f stayed held 𝓜 𝓡
    (Goes-dropped 𝓛 3 note yes (λ κs x w. refl), tt) (#self inst) function
    (code.unfolded 𝓤 𝓛.H 𝓜 𝓡 wired (V, (N, tt)) d) (λ κs. (shr_vals, tt))
    (λ κs. (shr_Tells (named 0) κs.0 (param 1 N), tt))
    (λ κs qs bounds a n are.
    let at : Val = vptr a.0.ref_ptr.0 a.0.ref_ptr.1 in
    let said : V.Denot = g.says a.0.now in
    let inside : (TheInside.the_row (param 0 V)).Denot = record { of = record {}; value = said } in
    let seen = viewed (TheInside.the_row (param 0 V)) V.Denot V.coded (the_view (param 0 V)) (the_invariant (param 0 V)) (λ x. ftrue) in
    let z : (walk_of 𝓛 f stayed held).Ghost = ((κs, qs, bounds, a, (at ∷ [], tt)), n) in
    let Post : Val → SProp 𝓤 = (walk_of 𝓛 f stayed held).post z in
    qed 𝓛 ((raw (alive 𝓛 f.signature κs qs) ⊛ ‵ (owns (types_at f.signature.params κs) a z.0.4)) ∷ raw ((held κs a).requires n) ∷ []) ∵
    split ! $ keep ! (0 ∷ []) $
    enter ! 𝓣.C 𝓣.Λ function (at ∷ []) Post $ alloc_all ! (λ l. pass_all ! refl ((tt, tt), tt) $
    sets ! (agg ! (no_more !)) refl (tt, tt) $
    sets ! (agg ! (and_then ! (get ! refl) (no_more !))) refl (tt, (tt, tt)) $
    nothing ! $ nothing ! $ owned ! mark (Is mark) (makes (Mark.the_type (param 0 V)) tt 𝓛) (record {}) (none ∷ []) (tt, (refl, tt)) $
    one_made ! mark (record {}) none $ fjoin ! $ fjoin ! $
    fpack ! (seen.Hidden said) (λ x. fsep ((TheInside.the_row (param 0 V)).own_val x.0 (one none ∷ [])) ftrue) (inside, (refl, tt)) $
    returns ! (look_at ! 0 refl) $ free_all ! refl $
    suffices ! _ (ends_at 𝓛 f stayed held z (one none) said (tt, tt) (tt, tt)) $ says ! refl $
    nothing ! $ nothing ! $ fjoin ! $ move ! (2 ∷ 0 ∷ 1 ∷ []) $ done !))
