-- `of` puts the pointer of a loose box, 1 and its allocator together.
use Rattle.std.proofs.Common.{◌≡◌, List, [], ◌∷◌, ◌++◌, refl, sym, subst, lit<}
use mir.Val.{Val, vptr}
use base.Logic.{SProp, ent, id⊢, emp}
use prog.Wp.{WpFn}
use types.Kit.{‵, raw, ◌⊛◌, ◌$◌, ◌∵◌, !, qed, by, move, keep, split, fsplit, fjoin, suffices, use0}
use types.Run.{of_opd, lit, no_more, and_then, stop, fld, returns, enter}
use types.ByLocal.{alloc_all, pass_all, free_all, look_at, get, get_in, sets}
use types.Part.{agg, sub, whole}
use contract.Monad.{fact, fact_i}
use contract.Running.{tables}
use denote.Exit.{yes}
use denote.RattleType.{RattleType, owns}
use denote.Signature.{types_at, plain}
use denote.RawPtr.{block_ptr}
use denote.Steps.{nothing}
use denote.Triple.Entry.{alive}
use denote.Triple.Walked.{Stays, stay_dropped, walk_of}
use Rattle.core.proofs.alloc.Calls.{Goes-blank}
use Rattle.std.specs.declared.option.Option.TheVariants.{Some}
use Rattle.std.specs.contracts.alloc.Global as heap
use Rattle.std.proofs.alloc.Global.TheLaws as heap_laws
use Rattle.std.specs.contracts.impls.GlobalAllocator.TheImpl.{ghosts}
use Rattle.std.proofs.raw_atomic.Walks.{proved_at, leaves}
use Rattle.kinds_handle.proofs.Words.{handle_word, handle_in, handle_fits, RawBox, loose_word, loose_out, loose_fits}
use Rattle.agent_kinds.specs.contracts.kinds.Kinds as held
use Rattle.kinds_handle.specs.contracts.handle.NavdKinds.of as f
use Rattle.kinds_handle.proofs.handle.NavdKinds.of.Statement.{statement}
use Rattle.kinds_handle.proofs.handle.NavdKinds.of.Code as code

abbrev Given : RattleType
Given = RawBox held.the_row heap.the_row heap_laws.the_row_laws ghosts

abbrev stayed : Stays f.ended.signature.params f.ended.kept
stayed = (stay_dropped (plain (λ _. Given)) yes, tt)

pub of_spec : {M : Type 1} → statement M
of_spec 𝓤 𝓛 𝓜 𝓡 wired =
    let c = f.clauses 𝓛 𝓜.mem 𝓡.returns in let 𝓣 = tables 𝓤 𝓛.H 𝓜 𝓡 𝓡.env in
    proved_at 𝓛 f.ended stayed c 𝓜 𝓡 (Goes-blank 𝓛 0 (plain (λ _. Given)) yes (λ κs x w. tt), tt) f.Key.name code.function (code.unfolded 𝓤 𝓛.H 𝓜 𝓡 wired) (λ z are.
    let κs = z.0.0 in let qs = z.0.1 in let d = z.0.3.0 in let LedgeView : Val → SProp 𝓤 = (walk_of 𝓛 f.ended stayed c).post z in
    let LiveRun : List Val → SProp 𝓤 = λ ws. WpFn 𝓤 𝓛.H 𝓣.C 𝓣.Λ code.function ws LedgeView in
    qed 𝓛 ((raw (alive 𝓛 f.signature κs qs) ⊛ ‵ (owns (types_at f.signature.params κs) z.0.3 z.0.4)) ∷ raw ((c κs z.0.3).requires z.1) ∷ []) ∵
    split ! $ move ! (1 ∷ []) $ fsplit ! $ loose_out held.the_row heap.the_row heap_laws.the_row_laws ghosts ! d z.0.4.0 (λ h b o good at_block of_word.
    let w = loose_word h (vptr b o) in let made = handle_fits (block_ptr b o) 1 h (lit< tt) good in
    -- [the allocator; the value on the heap; no parameter; the tokens; the `requires`]
    move ! (1 ∷ 0 ∷ []) $ handle_in held.the_row ! (block_ptr b o) 1 h d.alloc (Some d.value) (lit< tt) $
    use0 𝓛 (raw (fact 𝓤 (Some d.value ≡ Some d.value))) (fact_i 𝓤 (Some d.value ≡ Some d.value) (emp 𝓤) refl) $ nothing ! $ nothing ! $ fjoin ! $
    suffices ! (LiveRun (w ∷ [])) (subst (λ (us : List Val). ent 𝓤 (LiveRun (w ∷ [])) (LiveRun us)) (sym (λ i. of_word i ++ [])) (id⊢ 𝓤 (LiveRun (w ∷ [])))) $
    enter ! 𝓣.C 𝓣.Λ code.function (w ∷ []) LedgeView $ alloc_all ! (λ l. pass_all ! refl (loose_fits held.the_row heap.the_row heap_laws.the_row_laws ghosts h b o good, tt) $
    sets ! (of_opd ! (get_in ! (fld ! refl (stop !)) (sub ! 0 refl (whole !)))) refl good $
    sets ! (of_opd ! (get_in ! (fld ! refl (stop !)) (sub ! 1 refl (whole !)))) refl (tt, tt) $
    sets ! (of_opd ! (get ! refl)) refl (tt, tt) $
    sets ! (agg ! (and_then ! (get ! refl) (and_then ! (lit ! tt) (and_then ! (get ! refl) (no_more !))))) refl made $
    returns ! (look_at ! 0 refl) $ free_all ! refl $ keep ! (4 ∷ 0 ∷ 2 ∷ 1 ∷ []) $
    by ! (leaves 𝓛 f.ended stayed c z (handle_word (vptr b o) 1 h) (record { at = block_ptr b o; full = 1; alloc = d.alloc; kinds = Some d.value }) (_, tt) (tt, tt)))))
