-- What every maximal run of labels is: a range of places that all have its label.
use Rattle.std.proofs.Common.{◌≡◌, ℕ, ◌+◌, ◌-◌, ◌<◌, ◌≤◌, Bool, true, false, List, [], ◌∷◌, length, map, drop, get_or, ap, ◌∙◌, sym, refl, subst, arith, suc, Option, inl, inr}
use Rattle.std.specs.Prelude.{None, Some, All, ◌==◌, ◌||◌, not, if◌then◌else◌}
use Rattle.std.specs.List.{filter_map, cons_option, prefix_len, range_with_len, between}
use Rattle.std.proofs.lemmas.Bool.{eqb-true, cases_lt}
use Rattle.std.proofs.lemmas.List.{get_or-drop, get_or-take, get_or-map, length-drop, length-take, length-map}
use Rattle.std.proofs.lemmas.List.Elements.{All-nil, All-cons}
use Rattle.std.proofs.lemmas.List.FromFn.{get_or-range_with_len, length-range_with_len}
use Rattle.std.proofs.lemmas.List.Sums.{prefix_len_passes, prefix_len-le-length}
use Rattle.mesh_types.specs.declared.region.LabelRun.{LabelRun}
use Rattle.mesh_types.specs.Runs.{has_label, run_with, runs_of, label_if}

-- a range of places that all have one label
pub record IsRunOf (labels : List (Option ℕ)) (run : LabelRun) : Type 0 where
  pub order : run.first ≤ run.last
  pub inside : run.last < length labels
  pub labelled : (k : ℕ) → run.first ≤ k → k ≤ run.last → get_or labels k None ≡ Some run.label

-- what holds of each that is found
pub All-found : {X Y : Type 0} (h : X → Option Y) (P : Y → Type 0) (xs : List X)
    → ((k : ℕ) (d : X) → k < length xs → (y : Y) → h (get_or xs k d) ≡ Some y → P y) → All P (filter_map h xs)
All-found h P [] each = All-nil P
All-found {Y = Y} h P (x ∷ xs) each =
    by_case (h x) refl (All-found h P xs (λ k d there. each (suc k) d (omega (arith, there))))
  where
    by_case : (o : Option Y) → h x ≡ o → All P (filter_map h xs) → All P (cons_option o (filter_map h xs))
    by_case None is rest = rest
    by_case (Some y) is rest = All-cons P y (filter_map h xs) (each 0 x (omega arith) y is) rest

pub label_is : (label : ℕ) (o : Option ℕ) → has_label label o ≡ true → o ≡ Some label
label_is label None h = absurd cc
label_is label (Some own) h = ap (λ (n : ℕ). Some n) (eqb-true own label h)

-- the run that begins at a place
begun : (labels : List (Option ℕ)) (place label : ℕ) → place < length labels → get_or labels place None ≡ Some label
    → IsRunOf labels (record { first = place; last = place + prefix_len (has_label label) (drop (place + 1) labels); label = label })
begun labels place label there is =
    let rest : List (Option ℕ) = drop (place + 1) labels in
    record {
      order = omega arith;
      inside = omega (arith, there, length-drop (place + 1) labels, prefix_len-le-length (has_label label) rest);
      labelled = λ k least most. elim (cases_lt place k) [
        | inl after ↦
            let j : ℕ = k - (place + 1) in
            let at : get_or rest j None ≡ get_or labels k None = get_or-drop (place + 1) labels j None ∙ ap (λ n. get_or labels n None) {x = place + 1 + j} {y = k} (omega (arith, after)) in
            label_is label (get_or labels k None)
            (ap (has_label label) (sym at) ∙ prefix_len_passes (has_label label) rest j None (omega (arith, after, most)))
        | inr before ↦
            let same : place ≡ k = omega (arith, before, least) in
            ap (λ n. get_or labels n None) (sym same) ∙ is
      ];
    }

pub run_is : (labels : List (Option ℕ)) (place : ℕ) (run : LabelRun) → place < length labels → (o : Option ℕ) → get_or labels place None ≡ o
    → run_with labels place o ≡ Some run → IsRunOf labels run
run_is labels place run there None at is = absurd cc
run_is labels place run there (Some label) at is =
    by_case (place == 0 || not (has_label label (get_or labels (place - 1) None))) is
  where
    by_case : (b : Bool)
        → (if b then Some (record { first = place; last = place + prefix_len (has_label label) (drop (place + 1) labels); label = label }) else None) ≡ Some run
        → IsRunOf labels run
    by_case true is =
        let same : record { first = place; last = place + prefix_len (has_label label) (drop (place + 1) labels); label = label } ≡ run = cc in
        subst (IsRunOf labels) same (begun labels place label there at)
    by_case false is = absurd cc

pub runs_are_runs : (labels : List (Option ℕ)) → All (IsRunOf labels) (runs_of labels)
unfolding runs_of
runs_are_runs labels =
    All-found (λ place. run_with labels place (get_or labels place None)) (IsRunOf labels) (range_with_len 0 (length labels))
    (λ k d there run is.
    let place : ℕ = get_or (range_with_len 0 (length labels)) k d in
    let there' : k < length labels = omega (arith, there, length-range_with_len 0 (length labels)) in
    run_is labels place run (omega (arith, get_or-range_with_len 0 (length labels) k d there', there')) (get_or labels place None) refl is)

-- ---- the runs of places where a test holds

pub labelled_true : (b : Bool) (label : ℕ) → label_if b ≡ Some label → b ≡ true
labelled_true true label h = refl
labelled_true false label h = absurd cc

pub part_length : {A : Type 0} (own : List A) (first last : ℕ) → first ≤ last → last < length own → length (between first (last + 1) own) ≡ last + 1 - first
part_length own first last order inside =
    length-take (last + 1 - first) (drop first own) ∙ omega (arith, length-drop first own, order, inside)

-- every element of such a run passes
pub run_passes : {A : Type 0} (p : A → Bool) (own : List A) (run : LabelRun) → IsRunOf (map (λ a. label_if (p a)) own) run → (k : ℕ) (d : A)
    → run.first ≤ k → k ≤ run.last → p (get_or own k d) ≡ true
run_passes p own run is k d least most =
    labelled_true (p (get_or own k d)) run.label
    (sym (get_or-map (λ a. label_if (p a)) own k d None (omega (arith, is.inside, most, length-map own (λ a. label_if (p a))))) ∙ is.labelled k least most)

-- an element of a run, in the whole list
pub in_run : {A : Type 0} (own : List A) (first last k : ℕ) (d : A) → k < last + 1 - first → get_or (between first (last + 1) own) k d ≡ get_or own (first + k) d
in_run own first last k d inside = get_or-take (last + 1 - first) _ k d inside ∙ get_or-drop first own k d
