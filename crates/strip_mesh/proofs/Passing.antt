-- Runs of labels that are passed at once.
use Rattle.std.proofs.Common.{◌≡◌, ℕ, zero, suc, ◌+◌, ◌-◌, ◌<◌, ◌≤◌, ◌==◌, Bool, true, false, List, [], ◌∷◌, ◌++◌, length, map, drop, get_or, ap, ◌∙◌, sym, refl, subst, arith, inl, inr, Option}
use Rattle.std.specs.Prelude.{Some, None, not, ◌||◌, if◌then◌else◌}
use Rattle.std.specs.List.{filter_map, cons_option, range_with_len, prefix_len}
use Rattle.std.proofs.lemmas.Bool.{cases_lt, eq-eqb, ne_eqb, eqb-true, both_ways}
use Rattle.std.proofs.lemmas.List.{append_assoc, append-nil, get_or_past, get_or-drop, length-drop, length-map, map-append}
use Rattle.std.proofs.lemmas.List.Sums.{prefix_len_passes, prefix_len_stops, prefix_len-le-length}
use Rattle.mesh_types.specs.declared.region.LabelRun.{LabelRun}
use Rattle.mesh_types.specs.Runs.{runs_of, run_with, has_label}
use Rattle.mesh_types.proofs.Labels.{one_more_place}
use Rattle.mesh_types.proofs.RunLaws.{label_is}
use Rattle.strip_mesh.specs.Strips.{behind, part_with}

-- the runs that begin before a place
abbrev pub runs_before : List (Option ℕ) → ℕ → List LabelRun
runs_before labels place = filter_map (λ p. run_with labels p (get_or labels p None)) (range_with_len 0 place)

-- a label at the place begins a run
abbrev pub IsFresh : List (Option ℕ) → ℕ → Type 0
IsFresh labels place = (label : ℕ) → get_or labels place None ≡ Some label → (place == 0 || not (has_label label (get_or labels (place - 1) None))) ≡ true

or_true : (a : Bool) → (a || true) ≡ true
or_true true = refl
or_true false = refl

more : (labels : List (Option ℕ)) (place : ℕ) (next : Option LabelRun) → next ≡ run_with labels place (get_or labels place None)
    → runs_before labels (place + 1) ≡ runs_before labels place ++ cons_option next []
more labels place next is = sym (one_more_place (λ p. run_with labels p (get_or labels p None)) place (runs_before labels place) next is refl)

-- the places behind a label that follow it with the same
same_after : (labels : List (Option ℕ)) (place label j : ℕ) → get_or labels place None ≡ Some label → j ≤ prefix_len (has_label label) (drop (place + 1) labels)
    → get_or labels (place + j) None ≡ Some label
same_after labels place label zero is most = ap (λ n. get_or labels n None) {x = place + 0} {y = place} (omega arith) ∙ is
same_after labels place label (suc j) is most =
    let rest : List (Option ℕ) = drop (place + 1) labels in
    let at : get_or rest j None ≡ get_or labels (place + suc j) None =
    get_or-drop (place + 1) labels j None ∙ ap (λ n. get_or labels n None) {x = place + 1 + j} {y = place + suc j} (omega arith) in
    label_is label (get_or labels (place + suc j) None) (ap (has_label label) (sym at) ∙ prefix_len_passes (has_label label) rest j None (omega (arith, most)))

not_first : (n : ℕ) (b : Bool) → b ≡ false → (n + 1 == 0 || b) ≡ false
not_first n b is = ap (λ a. a || b) (ne_eqb (n + 1) 0 (λ e. omega (arith, e))) ∙ is

-- none of them begins a run
none_begins : (labels : List (Option ℕ)) (place label : ℕ) → get_or labels place None ≡ Some label → get_or labels (place + 1) None ≡ Some label
    → None ≡ run_with labels (place + 1) (get_or labels (place + 1) None)
none_begins labels place label before here =
    sym (ap (run_with labels (place + 1)) here
    ∙ ap (λ (b : Bool). if b then Some (record { first = place + 1; last = place + 1 + prefix_len (has_label label) (drop (place + 1 + 1) labels); label = label }) else None) no)
  where
    no : (place + 1 == 0 || not (has_label label (get_or labels (place + 1 - 1) None))) ≡ false
    no =
        not_first place (not (has_label label (get_or labels (place + 1 - 1) None)))
        (ap (λ n. not (has_label label (get_or labels n None))) {x = place + 1 - 1} {y = place} (omega arith) ∙ ap (λ o. not (has_label label o)) before
        ∙ ap not (eq-eqb label label refl))

passed : (labels : List (Option ℕ)) (place label j : ℕ) → get_or labels place None ≡ Some label → j ≤ prefix_len (has_label label) (drop (place + 1) labels)
    → runs_before labels (place + 1 + j) ≡ runs_before labels (place + 1)
passed labels place label zero is most = ap (runs_before labels) {x = place + 1 + 0} {y = place + 1} (omega arith)
passed labels place label (suc j) is most =
    let here = same_after labels place label j is (omega (arith, most)) in
    let next = ap (λ n. get_or labels n None) {x = place + j + 1} {y = place + suc j} (omega arith) ∙ same_after labels place label (suc j) is most in
    ap (runs_before labels) {x = place + 1 + suc j} {y = place + j + 1 + 1} (omega arith)
    ∙ more labels (place + j + 1) None (none_begins labels (place + j) label here next)
    ∙ append-nil (runs_before labels (place + j + 1))
    ∙ ap (runs_before labels) {x = place + j + 1} {y = place + 1 + j} (omega arith)
    ∙ passed labels place label j is (omega (arith, most))

-- the runs up to the end of one are those before it and that one
pub one_run_more : (labels : List (Option ℕ)) (place : ℕ) (o : Option ℕ) → get_or labels place None ≡ o → IsFresh labels place
    → runs_before labels (behind labels place o) ≡ runs_before labels place ++ cons_option (part_with place (behind labels place o) o) []
one_run_more labels place None is fresh = more labels place None (sym (ap (run_with labels place) is))
one_run_more labels place (Some label) is fresh =
    let m : ℕ = prefix_len (has_label label) (drop (place + 1) labels) in
    let begun : run_with labels place (Some label) ≡ Some (record { first = place; last = place + m; label = label }) =
    ap (λ (b : Bool). if b then Some (record { first = place; last = place + m; label = label }) else None) (fresh label is) in
    let last : Some (record { first = place; last = place + m; label = label }) ≡ part_with place (place + 1 + m) (Some label) =
    ap (λ n. Some (record { first = place; last = n; label = label })) {x = place + m} {y = place + 1 + m - 1} (omega arith) in
    passed labels place label m is (omega arith)
    ∙ more labels place (part_with place (place + 1 + m) (Some label)) (sym (ap (run_with labels place) is ∙ begun ∙ last))

-- behind a run the next one begins
pub fresh_behind : (labels : List (Option ℕ)) (place : ℕ) (o : Option ℕ) → get_or labels place None ≡ o → IsFresh labels (behind labels place o)
fresh_behind labels place None is label here =
    ap (λ n. place + 1 == 0 || not (has_label label (get_or labels n None))) {x = place + 1 - 1} {y = place} (omega arith)
    ∙ ap (λ o. place + 1 == 0 || not (has_label label o)) is ∙ or_true (place + 1 == 0)
fresh_behind labels place (Some label) is other here =
    let m : ℕ = prefix_len (has_label label) (drop (place + 1) labels) in
    let before : get_or labels (place + 1 + m - 1) None ≡ Some label =
    ap (λ n. get_or labels n None) {x = place + 1 + m - 1} {y = place + m} (omega arith) ∙ same_after labels place label m is (omega arith) in
    ap (λ o. place + 1 + m == 0 || not (has_label other o)) before
    ∙ ap (λ b. place + 1 + m == 0 || not b) (differs (label == other) refl)
    ∙ or_true (place + 1 + m == 0)
  where
    rest : List (Option ℕ)
    rest = drop (place + 1) labels

    ends : (label' : ℕ) → label ≡ label' → get_or rest (prefix_len (has_label label) rest) None ≡ Some label' → ⊥
    ends label' same at =
        elim (cases_lt (prefix_len (has_label label) rest) (length rest)) [
          | inl inside ↦
              both_ways (has_label label (get_or rest (prefix_len (has_label label) rest) None)) (prefix_len_stops (has_label label) rest None inside)
              (ap (has_label label) at ∙ eq-eqb label' label (sym same))
          | inr past ↦ absurd (none_is label' (sym (get_or_past rest (prefix_len (has_label label) rest) None past) ∙ at))
        ]
      where
        none_is : (n : ℕ) → None ≡ Some n → ⊥
        none_is n e = cc

    differs : (b : Bool) → (label == other) ≡ b → (label == other) ≡ false
    differs false is_b = is_b
    differs true is_b =
        absurd (ends other (eqb-true label other is_b) (get_or-drop (place + 1) labels (prefix_len (has_label label) rest) None ∙ here))

-- all runs
pub all_before : (labels : List (Option ℕ)) (place : ℕ) → place ≡ length labels → runs_before labels place ≡ runs_of labels
unfolding runs_of
all_before labels place is = ap (runs_before labels) is

-- one link more behind those before
pub link_more : {B : Type 0} (f : LabelRun → B) (labels : List (Option ℕ)) (place end : ℕ) (o : Option ℕ) (start made next : List B) → o ≡ get_or labels place None
    → end ≡ behind labels place o → IsFresh labels place → made ≡ start ++ map f (runs_before labels place)
    → next ≡ made ++ map f (cons_option (part_with place end o) []) → next ≡ start ++ map f (runs_before labels end)
link_more {B} f labels place end o start made next is end_is fresh so_far step =
    step ∙ ap (λ xs. xs ++ map f (cons_option (part_with place end o) [])) so_far
    ∙ append_assoc start (map f (runs_before labels place)) (map f (cons_option (part_with place end o) []))
    ∙ ap (λ xs. start ++ xs) (sym (map-append f (runs_before labels place) (cons_option (part_with place end o) [])))
    ∙ ap (λ n. start ++ map f (runs_before labels place ++ cons_option (part_with place n o) [])) end_is
    ∙ ap (λ rs. start ++ map f rs) (sym (one_run_more labels place o (sym is) fresh))
    ∙ ap (λ n. start ++ map f (runs_before labels n)) (sym end_is)

pub end_fresh : (labels : List (Option ℕ)) (place end : ℕ) (o : Option ℕ) → o ≡ get_or labels place None → end ≡ behind labels place o → IsFresh labels end
end_fresh labels place end o is end_is = subst (IsFresh labels) (sym end_is) (fresh_behind labels place o (sym is))

pub later : (labels : List (Option ℕ)) (place : ℕ) (o : Option ℕ) → place < behind labels place o
later labels place None = omega arith
later labels place (Some label) = omega arith
