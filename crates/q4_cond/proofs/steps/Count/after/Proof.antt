-- A count that is made has the number that is picked for it, here one more than the other's.
use Rattle.std.proofs.Common.{[], ◌∷◌, ◌+◌, refl}
use Rattle.std.proofs.raw_atomic.Walks.{proved}
use mir.Syntax.{named}
use mir.Val.{vstruct, vnil}
use types.Kit.{‵, raw, ◌⊛◌, ◌$◌, ◌∵◌, !, qed, move, keep, split, suffices, done}
use types.Run.{no_more, returns, enter}
use types.Part.{agg}
use types.ByLocal.{alloc_all, pass_all, free_all, look_at, sets}
use denote.Exit.{yes}
use denote.Ref.{shr_vals, shr_Tells}
use denote.Shadow.{pure_i}
use denote.Signature.{plain, types_at}
use denote.RattleType.{owns}
use denote.Triple.Entry.{alive}
use denote.Triple.Walked.{says, stay_none_ref, Goes-none_ref, Stays, walk_of, ends_at}
use Rattle.q4_cond.specs.contracts.steps.Count.{the_row as R}
use Rattle.q4_cond.specs.contracts.steps.Count.after as f
use Rattle.q4_cond.proofs.steps.Count.after.Statement.{statement}
use Rattle.q4_cond.proofs.steps.Count.after.Code as code

abbrev stayed : Stays f.ended.signature.params f.ended.kept
stayed = (stay_none_ref (0 ∷ []) tt (plain (λ _. R)) yes, tt)

pub after_spec : {M : Type 1} → statement M
after_spec 𝓤 𝓛 𝓜 𝓡 wired =
    let c = f.clauses 𝓛 𝓜.mem 𝓡.returns in let W = walk_of 𝓛 f.ended stayed c in
    proved 𝓛 f.ended stayed c 𝓜 𝓡 (Goes-none_ref 𝓛 1 (0 ∷ []) tt (plain (λ _. R)) yes, tt)
    f.Key.name code.function (code.unfolded 𝓤 𝓛.H 𝓜 𝓡 wired)
    (λ κs. (shr_vals, tt)) (λ κs. (shr_Tells (named 0) κs.0 R, tt)) (λ κs qs bounds a g are.
    let y : W.Ghost = ((κs, qs, bounds, a, (shr_vals a.0, tt)), g) in
    let more : R.Denot = record { number = a.0.now.number + 1 } in
    qed 𝓛 ((raw (alive 𝓛 f.signature κs qs) ⊛ ‵ (owns (types_at f.signature.params κs) a (shr_vals a.0, tt))) ∷ raw ((c κs a).requires g) ∷ []) ∵ keep ! (0 ∷ []) $ split ! $
    enter ! _ _ _ _ _ $ alloc_all ! (λ l. pass_all ! refl ((tt, tt), tt) $ sets ! (agg ! (no_more !)) refl (tt, tt) $
    returns ! (look_at ! 0 refl) $ free_all ! refl $
    suffices ! _ (ends_at 𝓛 f.ended stayed c y (vstruct vnil) more (tt, tt) (tt, tt)) $ says ! refl $
    pure_i ! (R.own_val more (vstruct vnil ∷ [])) ((λ vss. (tt, tt)), tt) ((tt, (refl, tt)), tt) $ move ! (1 ∷ 2 ∷ 0 ∷ []) $ done !))
