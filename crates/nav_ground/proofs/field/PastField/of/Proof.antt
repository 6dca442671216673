-- That `of` meets its contract, stage by stage: its body has no bytes to write, and what its caller lent is given back as it came.
use Rattle.std.proofs.Common.{[], ◌∷◌, refl}
use Rattle.std.proofs.raw_atomic.Walks.{proved}
use mir.Syntax.{named}
use mir.Val.{vstruct, vnil}
use types.Kit.{‵, raw, ◌⊛◌, ◌$◌, ◌∵◌, !, qed, done, move, keep, split, join, fjoin, suffices, use0}
use types.Run.{enter, no_more, returns}
use types.ByLocal.{alloc_all, pass_all, free_all, look_at, sets}
use types.Part.{agg}
use denote.Builtin.{RefOf}
use denote.Exit.{yes}
use denote.Ref.{shr_vals, shr_Tells}
use denote.Shadow.{makes_shadow}
use denote.RattleType.{owns}
use denote.Signature.{types_at, plain}
use denote.Steps.{nothing}
use denote.Triple.Entry.{alive}
use denote.Triple.Walked.{Stays, stay_dropped, walk_of, Goes-dropped, says, ends_at}
use Rattle.nav_ground.specs.contracts.field.Field as seen
use Rattle.nav_ground.specs.contracts.field.PastField as past
use Rattle.nav_ground.specs.contracts.field.PastField.of as f
use Rattle.nav_ground.proofs.field.PastField.of.Statement.{statement}
use Rattle.nav_ground.proofs.field.PastField.of.Code as code

-- the lent field is the one argument, and it is there again at the return
abbrev stayed : Stays f.ended.signature.params f.ended.kept
stayed = (stay_dropped (RefOf (0 ∷ []) tt (plain (λ _. seen.the_row)) (λ _. tt)) yes, tt)

pub of_spec : {M : Type 1} → statement M
of_spec 𝓤 𝓛 𝓜 𝓡 wired =
    let c = f.clauses 𝓛 𝓜.mem 𝓡.returns in let W = walk_of 𝓛 f.ended stayed c in
    proved 𝓛 f.ended stayed c 𝓜 𝓡 (Goes-dropped 𝓛 1 (RefOf (0 ∷ []) tt (plain (λ _. seen.the_row)) (λ _. tt)) yes (λ κs x w. refl), tt)
    f.Key.name code.function (code.unfolded 𝓤 𝓛.H 𝓜 𝓡 wired)
    -- what comes in is a reference, which shows the field
    (λ κs. (shr_vals, tt)) (λ κs. (shr_Tells (named 0) κs.0 seen.the_row, tt)) (λ κs qs bounds a _ are.
    -- the value that is made has no bytes, and its ghost field is what the reference shows
    let vs = shr_vals a.0 in let y : W.Ghost = ((κs, qs, bounds, a, (vs, tt)), tt) in let made = vstruct vnil in
    let Made = (past.the_row).own_val a.0.now (made ∷ []) in
    -- from what the caller hands over ..
    qed 𝓛 ((raw (alive 𝓛 f.signature κs qs) ⊛ ‵ (owns (types_at f.signature.params κs) a (vs, tt))) ∷ raw ((c κs a).requires tt) ∷ []) ∵ split ! $ keep ! (0 ∷ []) $
    -- .. the body's locals are made, its one statement makes the empty struct, and it returns ..
    enter ! _ _ _ _ _ $ alloc_all ! (λ l. pass_all ! refl ((tt, tt), tt) $
    sets ! (agg ! (no_more !)) refl (tt, tt) $
    returns ! (look_at ! 0 refl) $ free_all ! refl $
    -- .. with the ghost field beside it, and all that was lent is given back
    use0 𝓛 (‵ Made) (makes_shadow 𝓛 Made (λ x. (((λ us. (tt, tt)), tt), tt)) ((record { value = a.0.now }, (refl, tt)), (((tt, (refl, tt)), tt), tt))) $
    suffices ! _ (ends_at 𝓛 f.ended stayed c y made a.0.now (tt, tt) (tt, tt)) $ says ! refl $
    nothing ! $ nothing ! $ fjoin ! $ join ! $ move ! (1 ∷ 0 ∷ []) $ join ! $ done !))
