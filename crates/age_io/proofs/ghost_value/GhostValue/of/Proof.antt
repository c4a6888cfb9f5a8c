-- The code makes a value of no bytes, and the walk picks what it stands for.
use Rattle.std.proofs.Common.{[], ◌∷◌, refl}
use Rattle.std.proofs.raw_atomic.Walks.{proved}
use mir.Syntax.{named, a_type, dcons, dnil}
use mir.MapTy.{inst_fn}
use mir.Val.{vstruct, vcons, vnil}
use types.Kit.{‵, raw, ◌⊛◌, ◌$◌, ◌∵◌, !, qed, done, move, keep, split, join, fjoin, use0, suffices}
use types.Run.{enter, no_more, and_then, returns}
use types.ByLocal.{alloc_all, pass_all, free_all, look_at, get, sets}
use types.Part.{agg}
use denote.Exit.{yes}
use denote.Builtin.{RefOf}
use denote.Param.{param, bounded}
use denote.Ref.{shr_vals, shr_Tells}
use denote.RattleType.{owns}
use denote.Shadow.{makes_shadow}
use denote.Signature.{Slot, plain, types_at, type_at}
use denote.Steps.{nothing}
use denote.Triple.Entry.{alive, Res}
use denote.Triple.Walked.{Stays, says, stay_dropped, Goes-dropped, ends_at}
use Rattle.age_io.specs.contracts.ghost_value.GhostValue.of as f
use Rattle.age_io.proofs.ghost_value.GhostValue.of.Statement.{statement}
use Rattle.age_io.proofs.ghost_value.GhostValue.of.Code as code

pub of_spec : {M : Type 1} → statement M
of_spec 𝓤 𝓛 𝓜 𝓡 wired T N LT LN note dict met =
    let c = f.clauses T N note dict 𝓛 𝓜.mem 𝓡.returns in let En = f.ended T N note dict in let S = En.signature in
    let given = bounded (a_type ∷ a_type ∷ []) (T, (N, tt)) (dcons dict dnil) in
    let borrowed : Slot 3 = RefOf (0 ∷ []) tt (plain (λ κs. param 1 N)) (λ κs. tt) in
    let stayed : Stays S.params En.kept = (stay_dropped borrowed yes, tt) in
    proved 𝓛 En stayed c 𝓜 𝓡 (Goes-dropped 𝓛 3 borrowed yes (λ κs x w. refl), tt)
    (f.Key.name given) (inst_fn given code.function) (code.unfolded 𝓤 𝓛.H 𝓜 𝓡 wired (T, (N, tt)) dict) (λ κs. (shr_vals, tt))
    (λ κs. (shr_Tells (named 0) κs.0 (param 1 N), tt)) (λ κs qs bounds a g are.
    let vs = shr_vals a.0 in let v = vstruct (vcons (vstruct vnil) vnil) in
    let made : Res S κs = record { of = record {}; value = note.shows a.0.now } in let O = (type_at S.result κs).own_val made (v ∷ []) in
    qed 𝓛 ((raw (alive 𝓛 S κs qs) ⊛ ‵ (owns (types_at S.params κs) a (vs, tt))) ∷ raw ((c κs a).requires g) ∷ []) ∵
    split ! $ keep ! (0 ∷ []) $ enter ! _ _ _ _ _ $ alloc_all ! (λ l. pass_all ! refl ((tt, tt), tt) $
    sets ! (agg ! (no_more !)) refl (tt, tt) $ sets ! (agg ! (and_then ! (get ! refl) (no_more !))) refl (tt, (tt, tt)) $
    returns ! (look_at ! 0 refl) $ free_all ! refl $
    use0 𝓛 (‵ O) (makes_shadow 𝓛 O ((λ vss. (tt, ((λ uss. (tt, tt)), tt))), tt) (((vstruct vnil ∷ [], tt), (refl, ((tt, (refl, tt)), tt))), tt)) $
    suffices ! _ (ends_at 𝓛 En stayed c ((κs, qs, bounds, a, (vs, tt)), g) v made (tt, tt) (tt, tt)) $ says ! refl $
    nothing ! $ nothing ! $ fjoin ! $ join ! $ move ! (1 ∷ 0 ∷ []) $ join ! $ done !))
