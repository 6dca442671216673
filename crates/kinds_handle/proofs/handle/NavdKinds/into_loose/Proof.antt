-- `into_loose` looks whether the handle is full, and takes it apart.
use Rattle.std.proofs.Common.{◌≡◌, arith, eqb→eq, ℕ, suc, ◌<◌, ◌^◌, List, [], ◌∷◌, ◌++◌, refl, sym, ap, ◌∙◌, subst, lit<}
use mir.Val.{Val, vptr, vcons, vnil}
use base.Logic.{SProp, ent, id⊢, emp}
use prog.Wp.{WpFn}
use types.Kit.{‵, raw, ◌⊛◌, at_ret, ◌$◌, ◌∵◌, !, qed, by, move, keep, drop, split, fsplit, fjoin, suffices, use0, use1}
use types.Run.{of_opd, lit, bin, no_more, and_then, stop, fld, first, branches, exec, returns, enter}
use types.ByLocal.{alloc_all, pass_all, free_all, look_at, get, get_in, sets, sets_last, env}
use types.Part.{agg, sub, whole}
use types.Match.{live}
use contract.Monad.{fact, fact_i}
use contract.Running.{tables}
use denote.Exit.{yes}
use denote.RattleType.{RattleType, owns}
use denote.Signature.{types_at, type_at, plain}
use denote.RawPtr.{Ptr, block_ptr, ptr_val}
use denote.Param.{layout}
use denote.Steps.{nothing}
use denote.Triple.Entry.{alive}
use denote.Triple.Walked.{Stays, stay_dropped, walk_of}
use Rattle.core.proofs.alloc.Calls.{Goes-blank}
use Rattle.core.proofs.atomic.Steps.{Ptr-Good}
use Rattle.core.proofs.cell.Inside.{Good}
use Rattle.core.proofs.option.Made.{Some-of, none_of}
use Rattle.std.specs.declared.option.Option.TheVariants.{Some, None}
use Rattle.std.specs.contracts.alloc.Global as heap
use Rattle.std.proofs.alloc.Global.TheLaws as heap_laws
use Rattle.std.specs.contracts.impls.GlobalAllocator.TheImpl.{ghosts}
use Rattle.std.proofs.raw_atomic.Walks.{proved_at, leaves}
use Rattle.std_alloc.proofs.ResultValues.{and_tt}
use Rattle.kinds_handle.proofs.Words.{handle_word, handle_out, handle_fits, handle_fits_at, empty_or_full, RawBox, loose_word, loose_in, loose_fits}
use Rattle.agent_kinds.specs.contracts.kinds.Kinds as held
use Rattle.kinds_handle.specs.contracts.handle.NavdKinds as handle
use Rattle.kinds_handle.specs.contracts.handle.NavdKinds.into_loose as f
use Rattle.kinds_handle.proofs.handle.NavdKinds.into_loose.Statement.{statement}
use Rattle.kinds_handle.proofs.handle.NavdKinds.into_loose.Code as code

abbrev Made : RattleType
Made = RawBox held.the_row heap.the_row heap_laws.the_row_laws ghosts

abbrev stayed : Stays f.ended.signature.params f.ended.kept
stayed = (stay_dropped (plain (λ _. handle.the_row)) yes, tt)

pub into_loose_spec : {M : Type 1} → statement M
into_loose_spec 𝓤 𝓛 𝓜 𝓡 wired =
    let c = f.clauses 𝓛 𝓜.mem 𝓡.returns in let 𝓣 = tables 𝓤 𝓛.H 𝓜 𝓡 𝓡.env in
    proved_at 𝓛 f.ended stayed c 𝓜 𝓡 (Goes-blank 𝓛 0 (plain (λ _. handle.the_row)) yes (λ κs x w. tt), tt) f.Key.name code.function (code.unfolded 𝓤 𝓛.H 𝓜 𝓡 wired) (λ z are.
    let κs = z.0.0 in let qs = z.0.1 in let d = z.0.3.0 in let LedgeView : Val → SProp 𝓤 = (walk_of 𝓛 f.ended stayed c).post z in
    let Out : RattleType = type_at f.signature.result κs in
    let LiveRun : List Val → SProp 𝓤 = λ ws. WpFn 𝓤 𝓛.H 𝓣.C 𝓣.Λ code.function ws LedgeView in
    qed 𝓛 ((raw (alive 𝓛 f.signature κs qs) ⊛ ‵ (owns (types_at f.signature.params κs) z.0.3 z.0.4)) ∷ raw ((c κs z.0.3).requires z.1) ∷ []) ∵
    split ! $ move ! (1 ∷ []) $ fsplit ! $ handle_out held.the_row ! d.at d.full d.alloc d.kinds z.0.4.0 (λ h good low of_word.
    -- [what it owns; the allocator; no parameter; the tokens; the `requires`]
    empty_or_full held.the_row ! d.full d.alloc d.at d.kinds
    (λ is_zero is_none.
    let w = handle_word (ptr_val d.at) 0 h in let is_word : z.0.4.0 ≡ w ∷ [] = of_word ∙ ap (λ (n : ℕ). handle_word (ptr_val d.at) n h ∷ []) is_zero in
    drop ! $ use0 𝓛 (‵ (Out.own_val None (live 0 vnil ∷ []))) (none_of 𝓛 Made) $
    use0 𝓛 (raw (fact 𝓤 (None ≡ d.kinds))) (fact_i 𝓤 (None ≡ d.kinds) (emp 𝓤) (sym is_none)) $ nothing ! $ nothing ! $ fjoin ! $
    suffices ! (LiveRun (w ∷ [])) (subst (λ (us : List Val). ent 𝓤 (LiveRun (w ∷ [])) (LiveRun us)) (sym (λ i. is_word i ++ [])) (id⊢ 𝓤 (LiveRun (w ∷ [])))) $
    enter ! 𝓣.C 𝓣.Λ code.function (w ∷ []) LedgeView $ alloc_all ! (λ l. pass_all ! refl (handle_fits_at d.at 0 h (lit< tt) good, tt) $
    sets ! (of_opd ! (get_in ! (fld ! refl (stop !)) (sub ! 0 refl (whole !)))) refl (Ptr-Good d.at) $
    sets ! (of_opd ! (get_in ! (fld ! refl (stop !)) (sub ! 1 refl (whole !)))) refl (tt, record { fits = lit< tt }) $
    sets ! (of_opd ! (get_in ! (fld ! refl (stop !)) (sub ! 2 refl (whole !)))) refl good $
    sets ! (bin ! (get ! refl) (lit ! tt) tt) refl (tt, tt) $ first ! $ branches ! (get ! refl)
    (λ _. sets_last ! (agg ! (and_then ! (lit ! tt) (no_more !))) refl (tt, (record { fits = lit< tt }, tt)) $
    exec ! 𝓣.C 𝓣.Λ (env code.Mir.locals l) code.Mir.t-6 (at_ret _ LedgeView) $
    sets ! (of_opd ! (get ! refl)) refl (tt, (record { fits = lit< tt }, tt)) $
    returns ! (look_at ! 0 refl) $ free_all ! refl $ keep ! (4 ∷ 0 ∷ 2 ∷ 1 ∷ []) $ by ! (leaves 𝓛 f.ended stayed c z (live 0 vnil) None (_, tt) (tt, tt)))
    (λ wrong. absurd wrong)))
    (λ more y b o is_full is_some at_block.
    let w = handle_word (vptr b o) (suc more) h in
    let is_word : z.0.4.0 ≡ w ∷ [] = of_word ∙ ap (λ (n : ℕ). handle_word (ptr_val d.at) n h ∷ []) is_full ∙ ap (λ (p : Ptr). handle_word (ptr_val p) (suc more) h ∷ []) at_block in
    let below : suc more < 2 ^ 32 = subst (λ (n : ℕ). n < 2 ^ 32) is_full low in
    let made : Made.Denot = record { alloc = d.alloc; at = block_ptr b o; value = y } in
    let fits = loose_fits held.the_row heap.the_row heap_laws.the_row_laws ghosts h b o good in
    let out : Val = live 1 (vcons (loose_word h (vptr b o)) vnil) in let out_fits : Good (layout Out) out = (and_tt _ fits.0, (record { fits = lit< tt }, (fits.1, tt))) in
    move ! (1 ∷ 0 ∷ []) $ loose_in held.the_row heap.the_row heap_laws.the_row_laws ghosts ! h b o d.alloc y $
    use1 𝓛 (‵ (Out.own_val (Some made) (out ∷ []))) (Some-of 𝓛 Made made (loose_word h (vptr b o))) $
    use0 𝓛 (raw (fact 𝓤 (Some y ≡ d.kinds))) (fact_i 𝓤 (Some y ≡ d.kinds) (emp 𝓤) (sym is_some)) $ nothing ! $ nothing ! $ fjoin ! $
    suffices ! (LiveRun (w ∷ [])) (subst (λ (us : List Val). ent 𝓤 (LiveRun (w ∷ [])) (LiveRun us)) (sym (λ i. is_word i ++ [])) (id⊢ 𝓤 (LiveRun (w ∷ [])))) $
    enter ! 𝓣.C 𝓣.Λ code.function (w ∷ []) LedgeView $ alloc_all ! (λ l. pass_all ! refl (handle_fits (block_ptr b o) (suc more) h below good, tt) $
    sets ! (of_opd ! (get_in ! (fld ! refl (stop !)) (sub ! 0 refl (whole !)))) refl (tt, tt) $
    sets ! (of_opd ! (get_in ! (fld ! refl (stop !)) (sub ! 1 refl (whole !)))) refl (tt, record { fits = below }) $
    sets ! (of_opd ! (get_in ! (fld ! refl (stop !)) (sub ! 2 refl (whole !)))) refl good $
    sets ! (bin ! (get ! refl) (lit ! tt) tt) refl (tt, tt) $ first ! $ branches ! (get ! refl) (λ wrong. absurd (omega (arith, eqb→eq (suc more) 0 wrong)))
    (λ _. sets ! (of_opd ! (get ! refl)) refl (tt, tt) $
    sets ! (agg ! (and_then ! (get ! refl) (and_then ! (get ! refl) (no_more !)))) refl fits $
    sets_last ! (agg ! (and_then ! (lit ! tt) (and_then ! (get ! refl) (no_more !)))) refl out_fits $
    exec ! 𝓣.C 𝓣.Λ (env code.Mir.locals l) code.Mir.t-6 (at_ret _ LedgeView) $
    sets ! (of_opd ! (get ! refl)) refl out_fits $
    returns ! (look_at ! 0 refl) $ free_all ! refl $ keep ! (4 ∷ 0 ∷ 2 ∷ 1 ∷ []) $ by ! (leaves 𝓛 f.ended stayed c z out (Some made) (_, tt) (tt, tt)))))))
