-- `of` has the box taken apart, and keeps its two parts.
use Rattle.std.proofs.Common.{◌≡◌, List, [], ◌∷◌, ◌++◌, refl, sym, ap, ◌∙◌, subst}
use mir.Syntax.{Args, a_type, dcons, dnil}
use mir.Raw.{raw as bare}
use mir.MapTy.{inst_fn}
use mir.Val.{Val, vptr, vstruct, of_list}
use base.Logic.{SProp, ent, emp, never, id⊢, fst∗}
use base.Fml.{flft, ftrue}
use prog.Wp.{WpFn}
use types.Logic.{sem}
use types.Kit.{‵, raw, ◌⊛◌, some, later, ◌$◌, ◌∵◌, !, qed, by, move, keep, drop, split, split3, fsplit, fjoin, fpick, feq_l, pick, await, suffices, rewrite, use0, use1, join}
use types.Run.{of_opd, no_more, and_then, stop, fld, returns, enter}
use types.ByLocal.{alloc_all, pass_all, free_all, look_at, get, get_in, sets, lands_as}
use types.Part.{agg, sub, whole}
use contract.Monad.{fact, fact_i}
use contract.Running.{tables}
use denote.Builtin.{RawPtr}
use denote.Exit.{no}
use denote.RattleType.{RattleType, owns}
use denote.Signature.{types_at, plain}
use denote.RawPtr.{Ptr, block_ptr, null_ptr, ptr_val, in_a_block}
use denote.Memory.{lone}
use denote.Param.{param, layout, bounded}
use denote.Param.Laws.{param_laws}
use denote.Steps.{nothing, heard, only}
use denote.Struct.Tuple.{Tuple}
use denote.Triple.Call.{calls_at}
use denote.Triple.Clauses.{Lasts, lasts}
use denote.Triple.Spec.{triple_of}
use denote.Triple.Table.{framed}
use denote.Triple.Walked.{Stays, stay_dropped, walk_of}
use Rattle.core.proofs.alloc.Calls.{Goes-blank, handle_tells}
use Rattle.core.proofs.cell.Inside.{one}
use Rattle.std.proofs.raw_atomic.Walks.{proved_at, leaves}
use Rattle.std_alloc.specs.Box.Ownership.{box_owns}
use Rattle.std_alloc.specs.contracts.boxed.Box as box
use Rattle.std_alloc.proofs.boxed.Box.TheLaws as box_laws
use Rattle.std_alloc.specs.contracts.boxed.Box.into_raw_with_allocator as callee
use Rattle.std_alloc.proofs.boxed.Box.into_raw_with_allocator.Met.{met}
use Rattle.kinds_handle.proofs.Words.{allocator_of, loose_word, loose_in, loose_fits}
use Rattle.kinds_handle.specs.contracts.handle.RawBox.of as f
use Rattle.kinds_handle.proofs.handle.RawBox.of.Statement.{statement}
use Rattle.kinds_handle.proofs.handle.RawBox.of.Code as code

pub of_spec : {M : Type 1} → statement M
of_spec 𝓤 𝓛 𝓜 𝓡 wired T A L LA g d dx dd allocator glue glued =
    let 𝓣 = tables 𝓤 𝓛.H 𝓜 𝓡 𝓡.env in let R : RattleType = param 0 T in let Z : RattleType = param 1 A in let LZ = param_laws 1 A LA in
    let B : RattleType = box.the_row R Z g in let B_laws = box_laws.the_row_laws R Z g (param_laws 0 T L) LZ in
    let E = f.ended T A g d dx dd in let c = f.clauses T A g d dx dd 𝓛 𝓜.mem 𝓡.returns in
    let inst : Args = bounded (a_type ∷ a_type ∷ []) (T, (A, tt)) (dcons d (dcons dx (dcons dd dnil))) in let fn = inst_fn inst code.function in
    let stayed : Stays E.signature.params E.kept = (stay_dropped (plain (λ _. B)) no, tt) in
    proved_at 𝓛 E stayed c 𝓜 𝓡 (Goes-blank 𝓛 2 (plain (λ _. B)) no (λ κs x w. tt), tt) (f.Key.name inst) fn (code.unfolded 𝓤 𝓛.H 𝓜 𝓡 wired (T, (A, tt)) d dx dd) (λ z are.
    let κs = z.0.0 in let qs = z.0.1 in let v = z.0.3.0 in let a = v.alloc in let LedgeView : Val → SProp 𝓤 = (walk_of 𝓛 E stayed c).post z in
    let LiveRun : List Val → SProp 𝓤 = λ ws. WpFn 𝓤 𝓛.H 𝓣.C 𝓣.Λ fn ws LedgeView in
    let w = one (layout B) z.0.4.0 ((B_laws.lawful 𝓛).typed v z.0.4.0 are.0) in
    let k = triple_of 𝓛 (callee.signature T A g d dd dx) (callee.spec T A g d dd dx 𝓛 𝓜.mem 𝓡.returns) in
    let y : k.Ghost = ((κs, qs, tt, (v, tt), (w.0 ∷ [], tt)), tt) in let Pair = Tuple (RawPtr ∷ Z ∷ []) in
    let toks = ‵ (flft κs.0 qs.0) ⊛ ‵ (flft κs.1.0 qs.1.0) ⊛ ‵ ftrue in
    qed 𝓛 ((toks ⊛ ‵ (owns (types_at E.signature.params κs) z.0.3 z.0.4)) ∷ raw ((c κs z.0.3).requires z.1) ∷ []) ∵
    split ! $ move ! (1 ∷ []) $ fsplit ! $ rewrite ! 0 (λ (us : List Val). ‵ (B.own_val v us)) w.1 refl $
    fjoin ! $ move ! (1 ∷ 0 ∷ []) $ join ! $ join ! $ use1 𝓛 (raw (k.pre y)) (id⊢ 𝓤 _) $
    suffices ! (LiveRun (w.0 ∷ [])) (subst (λ (us : List Val). ent 𝓤 (LiveRun (w.0 ∷ [])) (LiveRun us)) (sym (λ i. w.1 i ++ [])) (id⊢ 𝓤 (LiveRun (w.0 ∷ [])))) $
    enter ! 𝓣.C 𝓣.Λ fn (w.0 ∷ []) LedgeView $ alloc_all ! (λ l. pass_all ! refl (w.2, tt) $
    sets ! (of_opd ! (get ! refl)) refl w.2 $
    calls_at ! (framed 𝓤 𝓛.H 𝓜 𝓣) k (met 𝓤 𝓛 𝓜 𝓡 (code.calls-std_alloc::boxed::Box::into_raw_with_allocator 𝓡.env wired) T A L LA g d dd dx allocator glued glue) y (and_then ! (get ! refl) (no_more !)) (λ u.
    use1 𝓛 (later (some (λ (r : Ptr × A.Denot). (toks ⊛ ‵ (Pair.own_val r (u ∷ []))) ⊛ some (λ (ls : Lasts (callee.ended T A g d dd dx) κs y.0.3).
    ‵ (lasts (callee.ended T A g d dd dx) κs y.0.3 ls) ⊛ (raw (fact 𝓤 (r.1 ≡ a)) ⊛ ‵ (box_owns (g.dealloc_token a) R r.0 v.value)))))) (id⊢ 𝓤 _) $
    await ! tt $ pick ! (λ r. split ! $ move ! (1 ∷ []) $ pick ! (λ ls. split3 ! $ drop ! $ heard ! (r.1 ≡ a) (λ same.
    -- [the value on the heap; the tokens with the pair]
    in_a_block ! r.0 (λ p. box_owns (g.dealloc_token a) R p v.value) (fst∗ 𝓤 (never 𝓤) (sem 𝓛 (g.dealloc_token a (bare (lone R.mir)) null_ptr))) (λ b o at_block.
    move ! (1 ∷ []) $ split ! $ move ! (1 ∷ []) $
    fpick ! (λ parts. fsplit ! $ feq_l ! (λ of_parts. fsplit ! $ feq_l ! (λ of_pointer. fsplit ! $
    rewrite ! 0 (λ (s : A.Denot). ‵ (A.own_val s parts.1.0)) same refl $ handle_tells (allocator_of Z LZ g) ! a parts.1.0 (λ h of_heap good.
    -- [the allocator; no more; the tokens; the value on the heap]
    let pair : Val = vstruct (of_list (vptr b o ∷ h ∷ [])) in
    let is_pair : u ≡ pair = ap only of_parts ∙ ap (λ (ws : List Val). vstruct (of_list (ws ++ (parts.1.0 ++ [])))) (of_pointer ∙ ap (λ (p : Ptr). ptr_val p ∷ []) at_block)
    ∙ ap (λ (ws : List Val). vstruct (of_list (vptr b o ∷ (ws ++ [])))) of_heap in
    let fits = loose_fits R Z LZ g h b o good in
    lands_as ! is_pair refl (fits.0, (tt, (good.1, tt))) $
    sets ! (of_opd ! (get_in ! (fld ! refl (stop !)) (sub ! 0 refl (whole !)))) refl (tt, tt) $
    sets ! (of_opd ! (get_in ! (fld ! refl (stop !)) (sub ! 1 refl (whole !)))) refl good $
    sets ! (of_opd ! (get ! refl)) refl good $
    sets ! (agg ! (and_then ! (get ! refl) (and_then ! (get ! refl) (no_more !)))) refl fits $
    move ! (0 ∷ 3 ∷ []) $ loose_in R Z LZ g ! h b o a v.value $
    use0 𝓛 (raw (fact 𝓤 (v.value ≡ v.value))) (fact_i 𝓤 (v.value ≡ v.value) (emp 𝓤) refl) $ nothing ! $ nothing ! $ fjoin ! $
    returns ! (look_at ! 0 refl) $ free_all ! refl $ keep ! (4 ∷ 0 ∷ 2 ∷ 1 ∷ []) $
    by ! (leaves 𝓛 E stayed c z (loose_word h (vptr b o)) (record { alloc = a; at = block_ptr b o; value = v.value }) (_, tt) (tt, tt)))))))))))))
