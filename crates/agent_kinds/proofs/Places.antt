-- A search through the kinds, and a step of one.
use Rattle.std.proofs.Common.{◌≡◌, ℕ, zero, suc, ◌+◌, ◌<◌, ◌≤◌, List, [], ◌∷◌, length, get_or, set, drop, Option, Some, None, ap, ◌∙◌, sym, subst, refl, arith, inl, inr}
use Rattle.std.specs.Prelude.{All}
use Rattle.std.specs.Option.{option_map_or}
use Rattle.std.proofs.lemmas.Bool.{cases_eq}
use Rattle.std.proofs.lemmas.List.{at_drop_all, at_drop_more, get_or_default, get_or-set_other, get_or-set_same, length-set, set-get_or}
use Rattle.std.proofs.lemmas.List.Elements.{All-cons, All-set}
use Rattle.std.proofs.lemmas.Option.{none-some}
use Rattle.build_queue.specs.BookState.{BookState, IsBook}
use Rattle.agent_kinds.specs.Firsts.{at_kind, first_in}
use Rattle.agent_kinds.specs.Kinds.{AreKinds}
use Rattle.agent_kinds.proofs.AtOne.{common_of, kinds_after}

module _ {X : Type 0} (find : BookState → Option X) (states : List BookState) (i : ℕ) where
  abbrev put : Option X → Option (ℕ × X)
  put found = option_map_or (λ (x : X). Some (i, x)) found (first_in find (i + 1) (drop (i + 1) states))

  -- nothing is found in a kind
  pub not_here : (d : BookState) → i < length states → find (get_or states i d) ≡ None
      → first_in find (i + 1) (drop (i + 1) states) ≡ first_in find i (drop i states)
  unfolding first_in
  not_here d there none = sym (at_drop_more (first_in find i) states i d there ∙ ap put none)

  -- something is found
  pub found_here : (d : BookState) (x : X) → i < length states → find (get_or states i d) ≡ Some x → first_in find i (drop i states) ≡ Some (i, x)
  unfolding first_in
  found_here d x there some = at_drop_more (first_in find i) states i d there ∙ ap put some

  -- nothing is found behind the last
  pub nowhere : length states ≤ i → first_in find i (drop i states) ≡ None
  unfolding first_in
  nowhere past = at_drop_all (first_in find i) states i past

-- where nothing is found, it is found in no kind
pub found_in_none : {X : Type 0} (find : BookState → Option X) (kind : ℕ) (states : List BookState) → first_in find kind states ≡ None
    → All (λ (state : BookState). find state ≡ None) states
unfolding first_in
found_in_none find kind [] none = λ k d there. absurd (omega (arith, there))
found_in_none {X} find kind (state ∷ more) none =
    by_case (λ rest. found_in_none find (kind + 1) more rest) (find state) refl none
  where
    by_case : (first_in find (kind + 1) more ≡ None → All (λ (s : BookState). find s ≡ None) more) → (found : Option X) → find state ≡ found
        → option_map_or (λ (x : X). Some (kind, x)) found (first_in find (kind + 1) more) ≡ None → All (λ (s : BookState). find s ≡ None) (state ∷ more)
    by_case others (Some x) is some = absurd (none-some (kind, x) (sym some))
    by_case others None is rest = All-cons (λ (s : BookState). find s ≡ None) state more is (others rest)

-- where it is found in no kind, nothing is found
pub none_in_all : {X : Type 0} (find : BookState → Option X) (kind : ℕ) (states : List BookState) → All (λ (state : BookState). find state ≡ None) states
    → first_in find kind states ≡ None
unfolding first_in
none_in_all find kind [] none = refl
none_in_all {X} find kind (state ∷ more) none =
    ap (λ (o : Option X). option_map_or (λ (y : X). Some (kind, y)) o (first_in find (kind + 1) more)) (none 0 state (omega arith))
    ∙ none_in_all find (kind + 1) more (λ k d there. none (suc k) d (omega (arith, there)))

-- a place that is written is a step of that kind
pub written : (kind : ℕ) (step : BookState → BookState) (states : List BookState) (d : BookState) → kind < length states
    → set states kind (step (get_or states kind d)) ≡ at_kind kind step states
unfolding at_kind
written kind step [] d there = refl
written zero step (state ∷ more) d there = refl
written (suc kind) step (state ∷ more) d there = ap (λ (rest : List BookState). state ∷ rest) (written kind step more d (omega (arith, there)))

-- a kind that takes a step which leaves what kinds have in common, among kinds
pub kinds_with : (states : List BookState) (kind : ℕ) (d new : BookState) → AreKinds states → kind < length states → IsBook new
    → common_of new ≡ common_of (get_or states kind d) → AreKinds (set states kind new)
kinds_with states kind d new kinds there rules same =
    kinds_after (λ c. c) states (set states kind new) kinds (length-set states kind new) (All-set IsBook states kind new rules kinds.each)
    (λ k e within. elim (cases_eq k kind) [
      | inl here ↦
          ap (λ (n : ℕ). common_of (get_or (set states kind new) n e)) here ∙ ap common_of (get_or-set_same states kind new e there) ∙ same
          ∙ ap common_of (get_or_default states kind d e there) ∙ ap (λ (n : ℕ). common_of (get_or states n e)) (sym here)
      | inr apart ↦ ap common_of (get_or-set_other states kind k new e apart)
    ])

-- the levels are as they were, and a place of them is written
module _ (before levels : List BookState) (kind : ℕ) (d : BookState) (same : levels ≡ before) where
  pub here_is : get_or levels kind d ≡ get_or before kind d
  here_is = ap (λ (list : List BookState). get_or list kind d) same

  pub same_here : (new : BookState) → new ≡ get_or levels kind d → set levels kind new ≡ before
  same_here new is = ap (set levels kind) is ∙ set-get_or levels kind d ∙ same

  pub written_here : (step : BookState → BookState) (new : BookState) → kind < length before → new ≡ step (get_or levels kind d)
      → set levels kind new ≡ at_kind kind step before
  written_here step new there is =
      ap (set levels kind) is ∙ (λ i. set (same i) kind (step (get_or (same i) kind d))) ∙ written kind step before d there

  pub kinds_here : (new : BookState) → AreKinds before → kind < length before → IsBook new → common_of new ≡ common_of (get_or levels kind d)
      → AreKinds (set levels kind new)
  kinds_here new kinds there rules is =
      subst (λ (list : List BookState). AreKinds (set list kind new)) (sym same)
      (kinds_with before kind d new kinds there rules (is ∙ ap common_of here_is))
