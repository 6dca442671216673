-- The machine values of a loose box and of a handle, and what is owned at them: taken apart and put together.
use Rattle.std.proofs.Common.{◌≡◌, arith, ℕ, zero, suc, ◌<◌, ◌^◌, List, [], ◌∷◌, ◌++◌, refl, ap, ◌∙◌, w32}
use mathlib.Core.Bool.{◌&&◌, true}
use lib.Dec.{T}
use seplogic.Ra.Ura.{Ura}
use mir.Syntax.{impl, tnil, dnil, ty_ptr}
use mir.Raw.{raw as bare}
use mir.Val.{Val, vptr, vint, vstruct, vcons, vnil, of_list, has_ty, WT}
use base.Logic.{never, fst∗}
use base.Fml.{fsep}
use types.Logic.{Logic, sem}
use types.Kit.{Item, Goal, Seq, Step, step, ‵, ◌$◌, move, drop, fsplit, fjoin, fpick, fpack, feq_i, feq_l, flt_i, flt_l}
use denote.RattleType.{RattleType, Valss}
use denote.Builtin.{RawPtr, u32}
use denote.Memory.{lone}
use denote.RawPtr.{Ptr, block_ptr, null_ptr, ptr_val, in_a_block}
use denote.Steps.{nothing}
use denote.Param.{layout}
use denote.Param.Laws.{Laws}
use denote.Struct.Struct.{Struct, within}
use denote.Struct.Owning.{shape}
use Rattle.std.specs.declared.option.Option.{Option}
use Rattle.std.specs.declared.option.Option.TheVariants.{Some, None}
use Rattle.core.specs.declared.alloc.Allocator.{Ghosts}
use Rattle.core.proofs.alloc.Calls.{Al, handle_tells}
use Rattle.core.proofs.cell.Inside.{Good}
use Rattle.core.proofs.atomic.Steps.{Ptr-Good}
use Rattle.std.specs.declared.alloc.Global.{Global}
use Rattle.std.specs.contracts.alloc.Global as heap
use Rattle.std.proofs.alloc.Global.TheLaws as heap_laws
use Rattle.std.specs.contracts.impls.GlobalAllocator.TheImpl.{ghosts}
use Rattle.std_alloc.specs.Box.Ownership.{box_owns}
use Rattle.std_alloc.proofs.ResultValues.{and_tt}
use Rattle.nav_handle.specs.Handles.{owns_for}
use Rattle.kinds_handle.specs.contracts.handle.RawBox as loose

-- an allocator with its laws, as far as its machine value goes
abbrev pub allocator_of : (Z : RattleType) → Laws Z → Ghosts Z.Denot → Al
allocator_of Z laws g = record { row = Z; laws = laws; g = g; d = impl [] tnil dnil; drops = impl [] tnil dnil }

-- ---- a loose box: the allocator's value, and the pointer
abbrev pub loose_word : Val → Val → Val
loose_word h p = vstruct (vcons h (vcons p vnil))

module _ (R Z : RattleType) (laws : Laws Z) (g : Ghosts Z.Denot) where
  abbrev pub RawBox : RattleType
  RawBox = loose.the_row R Z g

  pub loose_fits : (h : Val) (b o : ℕ) → Good (layout Z) h → T (has_ty (layout Z) h && true) × WT (loose_word h (vptr b o))
  loose_fits h b o good = (and_tt (has_ty (layout Z) h) good.0, (good.1, (tt, tt)))

  module _ {M : Type 1} {𝓤 : Ura M} {𝓛 : Logic 𝓤} {K : Type 0} {Γ : List (Item 𝓤)} {G : Goal 𝓤 𝓛.H} where
    -- nothing lies at null, so its pointer is a block's
    pub loose_out : K → (d : RawBox.Denot) (vs : List Val)
        → ((h : Val) (b o : ℕ) → Good (layout Z) h → d.at ≡ block_ptr b o → vs ≡ loose_word h (vptr b o) ∷ []
        → Seq K 𝓛 (‵ (Z.own_val d.alloc (h ∷ [])) ∷ ‵ (box_owns (g.dealloc_token d.alloc) R (block_ptr b o) d.value) ∷ Γ) G)
        → Seq K 𝓛 (‵ (RawBox.own_val d vs) ∷ Γ) G
    loose_out t d vs k =
        fsplit t $ fpick t (λ parts. fsplit t $ feq_l t (λ of_parts. fsplit t $
        handle_tells (allocator_of Z laws g) t d.alloc parts.0 (λ h of_heap good. move t (1 ∷ []) $ fsplit t $ feq_l t (λ of_pointer. drop t $ move t (1 ∷ []) $
        in_a_block t d.at (λ p. box_owns (g.dealloc_token d.alloc) R p d.value) (fst∗ 𝓤 (never 𝓤) (sem 𝓛 (g.dealloc_token d.alloc (bare (lone R.mir)) null_ptr))) (λ b o at_block.
        move t (1 ∷ 0 ∷ []) $ k h b o good at_block
        (of_parts ∙ ap (λ (ws : List Val). vstruct (of_list (ws ++ (parts.1.0 ++ []))) ∷ []) of_heap
        ∙ ap (λ (ws : List Val). vstruct (of_list (h ∷ (ws ++ []))) ∷ []) of_pointer ∙ ap (λ (p : Ptr). loose_word h (ptr_val p) ∷ []) at_block))))))

    pub loose_in : K → (h : Val) (b o : ℕ) (a : Z.Denot) (x : R.Denot)
        → Step K 𝓛 (‵ (RawBox.own_val (record { alloc = a; at = block_ptr b o; value = x }) (loose_word h (vptr b o) ∷ [])) ∷ Γ) G
        (‵ (Z.own_val a (h ∷ [])) ∷ ‵ (box_owns (g.dealloc_token a) R (block_ptr b o) x) ∷ Γ) G
    loose_in t h b o a x = step (λ s. let w : Val = loose_word h (vptr b o) in
        nothing t $ feq_i t (List Val) (vptr b o ∷ []) (vptr b o ∷ []) refl $ fjoin t $ move t (1 ∷ 0 ∷ []) $ fjoin t $
        feq_i t (List Val) (w ∷ []) (w ∷ []) refl $ fjoin t $
        fpack t (Valss (Z ∷ RawPtr ∷ [])) (within (shape (loose.the_type R Z g)) (a, (block_ptr b o, tt)) (w ∷ [])) (h ∷ [], (vptr b o ∷ [], tt)) $ fjoin t $ s)

-- ---- a handle: the pointer, whether it is full, and the allocator's value
abbrev pub handle_word : Val → ℕ → Val → Val
handle_word p n h = vstruct (vcons p (vcons (vint w32 n) (vcons h vnil)))

abbrev Z : RattleType
Z = heap.the_row

-- its fields
abbrev Parts : RattleType
Parts = Struct (record { name = []; args = []; types = []; fields = RawPtr ∷ u32 ∷ (heap.the_field).row ∷ [] })

module _ (R : RattleType) {M : Type 1} {𝓤 : Ura M} {𝓛 : Logic 𝓤} {K : Type 0} {Γ : List (Item 𝓤)} {G : Goal 𝓤 𝓛.H} where
  pub handle_out : K → (p : Ptr) (n : ℕ) (a : Global) (x : Option R.Denot) (vs : List Val)
      → ((h : Val) → Good (layout Z) h → n < 2 ^ 32 → vs ≡ handle_word (ptr_val p) n h ∷ [] → Seq K 𝓛 (‵ (owns_for R n a p x) ∷ ‵ (Z.own_val a (h ∷ [])) ∷ Γ) G)
      → Seq K 𝓛 (‵ (fsep (Parts.own_val (p, (n, ((heap.the_field).into a, tt))) vs) (owns_for R n a p x)) ∷ Γ) G
  handle_out t p n a x vs k =
      fsplit t $ fpick t (λ parts. fsplit t $ feq_l t (λ of_parts. fsplit t $ feq_l t (λ of_pointer. fsplit t $ fsplit t $ feq_l t (λ of_full. flt_l t (λ low. fsplit t $
      handle_tells (allocator_of Z heap_laws.the_row_laws ghosts) t a parts.1.1.0 (λ h of_heap good. move t (1 ∷ []) $ drop t $ move t (1 ∷ []) $ k h good low
      (of_parts ∙ ap (λ (ws : List Val). vstruct (of_list (ws ++ (parts.1.0 ++ (parts.1.1.0 ++ [])))) ∷ []) of_pointer
      ∙ ap (λ (ws : List Val). vstruct (of_list (ptr_val p ∷ (ws ++ (parts.1.1.0 ++ [])))) ∷ []) of_full
      ∙ ap (λ (ws : List Val). vstruct (of_list (ptr_val p ∷ vint w32 n ∷ (ws ++ []))) ∷ []) of_heap)))))))

  pub handle_in : K → (p : Ptr) (n : ℕ) (h : Val) (a : Global) (x : Option R.Denot) → n < 2 ^ 32
      → Step K 𝓛 (‵ (fsep (Parts.own_val (p, (n, ((heap.the_field).into a, tt))) (handle_word (ptr_val p) n h ∷ [])) (owns_for R n a p x)) ∷ Γ) G
      (‵ (owns_for R n a p x) ∷ ‵ (Z.own_val a (h ∷ [])) ∷ Γ) G
  handle_in t p n h a x low = step (λ s. let w : Val = handle_word (ptr_val p) n h in
      nothing t $ move t (2 ∷ 0 ∷ []) $ fjoin t $ flt_i t n (2 ^ 32) low $ feq_i t (List Val) (vint w32 n ∷ []) (vint w32 n ∷ []) refl $ fjoin t $ fjoin t $
      feq_i t (List Val) (ptr_val p ∷ []) (ptr_val p ∷ []) refl $ fjoin t $ feq_i t (List Val) (w ∷ []) (w ∷ []) refl $ fjoin t $
      fpack t (Valss (RawPtr ∷ u32 ∷ (heap.the_field).row ∷ []))
      (within (record { name = []; args = []; types = []; fields = RawPtr ∷ u32 ∷ (heap.the_field).row ∷ [] }) (p, (n, ((heap.the_field).into a, tt))) (w ∷ []))
      (ptr_val p ∷ [], (vint w32 n ∷ [], (h ∷ [], tt))) $ fjoin t $ s)

  -- it is empty, or holds a value on the heap
  pub empty_or_full : K → (n : ℕ) (a : Global) (p : Ptr) (x : Option R.Denot)
      → (n ≡ 0 → x ≡ None → Seq K 𝓛 Γ G)
      → ((more : ℕ) (y : R.Denot) (b o : ℕ) → n ≡ suc more → x ≡ Some y → p ≡ block_ptr b o
      → Seq K 𝓛 (‵ (box_owns (ghosts.dealloc_token a) R (block_ptr b o) y) ∷ Γ) G)
      → Seq K 𝓛 (‵ (owns_for R n a p x) ∷ Γ) G
  empty_or_full t zero a p None none one = drop t $ none refl refl
  empty_or_full t zero a p (Some y) none one = feq_l t (λ wrong. absurd (omega (arith, wrong)))
  empty_or_full t (suc more) a p None none one = feq_l t (λ wrong. absurd (omega (arith, wrong)))
  empty_or_full t (suc more) a p (Some y) none one =
      in_a_block t p (λ q. box_owns (ghosts.dealloc_token a) R q y) (fst∗ 𝓤 (never 𝓤) (sem 𝓛 (ghosts.dealloc_token a (bare (lone R.mir)) null_ptr))) (λ b o at_block. one more y b o refl refl at_block)

pub handle_fits : (p : Ptr) (n : ℕ) (h : Val) → n < 2 ^ 32 → Good (layout Z) h → T (has_ty (layout Z) h && true) × WT (handle_word (ptr_val p) n h)
handle_fits p n h low good = (and_tt (has_ty (layout Z) h) good.0, ((Ptr-Good p).1, (record { fits = low }, (good.1, tt))))

pub handle_fits_at : (p : Ptr) (n : ℕ) (h : Val) → n < 2 ^ 32 → Good (layout Z) h
    → T (has_ty ty_ptr (ptr_val p) && (has_ty (layout Z) h && true)) × WT (handle_word (ptr_val p) n h)
handle_fits_at (block_ptr b o) n h low good = handle_fits (block_ptr b o) n h low good
handle_fits_at null_ptr n h low good = handle_fits null_ptr n h low good
