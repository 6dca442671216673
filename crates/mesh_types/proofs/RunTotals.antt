-- Maximal runs lie apart, so that together they have no more than the whole.
use Rattle.std.proofs.Common.{◌≡◌, ℕ, zero, suc, ◌+◌, ◌-◌, ◌<◌, ◌≤◌, Bool, true, false, List, [], ◌∷◌, drop, length, get_or, ap, ◌∙◌, sym, refl, subst, arith, Option, inl, inr}
use Rattle.std.specs.Prelude.{None, Some, All, AllPairs, ◌==◌, ◌||◌, not, if◌then◌else◌}
use Rattle.std.specs.List.{sum_by, count_by, filter_map, cons_option, prefix_len, range_with_len, between}
use Rattle.std.proofs.lemmas.Bool.{cases_lt, both_ways, eq-eqb, ne_eqb}
use Rattle.std.proofs.lemmas.List.Elements.{All-head, All-tail}
use Rattle.std.proofs.lemmas.List.Folds.{drop_split}
use Rattle.std.proofs.lemmas.List.FromFn.{get_or-range_with_len, length-range_with_len}
use Rattle.std.proofs.lemmas.List.Kept.{AllPairs-cons}
use Rattle.std.proofs.lemmas.List.Sums.{sum_by-cons, sum_by-append}
use Rattle.mesh_types.specs.declared.region.LabelRun.{LabelRun}
use Rattle.mesh_types.specs.Runs.{has_label, run_with, runs_of}
use Rattle.mesh_types.proofs.RunLaws.{IsRunOf, runs_are_runs, All-found}
use Rattle.mesh_types.proofs.Totals.{length-filter_map}

-- the place before a run does not have the run's label
abbrev pub BeginsAlone : List (Option ℕ) → LabelRun → Type 0
BeginsAlone labels run = (k : ℕ) → k + 1 ≡ run.first → get_or labels k None ≡ Some run.label → ⊥

-- the run that begins at a place, by the test that it passed
begins_alone : (labels : List (Option ℕ)) (place label : ℕ) → (place == 0 || not (has_label label (get_or labels (place - 1) None))) ≡ true
    → (k : ℕ) → k + 1 ≡ place → get_or labels k None ≡ Some label → ⊥
begins_alone labels place label passes k is before =
    let at : get_or labels (place - 1) None ≡ Some label = ap (λ n. get_or labels n None) {x = place - 1} {y = k} (omega (arith, is)) ∙ before in
    both_ways (place == 0 || not (has_label label (get_or labels (place - 1) None)))
    (ap (λ b. b || not (has_label label (get_or labels (place - 1) None))) (ne_eqb place 0 (λ none. omega (arith, is, none)))
    ∙ ap (λ o. not (has_label label o)) at
    ∙ ap not (eq-eqb label label refl))
    passes

pub found_run : (labels : List (Option ℕ)) (place : ℕ) (o : Option ℕ) (run : LabelRun) → run_with labels place o ≡ Some run
    → (run.first ≡ place) × BeginsAlone labels run
found_run labels place None run is = absurd cc
found_run labels place (Some label) run is =
    by_case (place == 0 || not (has_label label (get_or labels (place - 1) None))) refl is
  where
    by_case : (b : Bool) → (place == 0 || not (has_label label (get_or labels (place - 1) None))) ≡ b
        → (if b then Some (record { first = place; last = place + prefix_len (has_label label) (drop (place + 1) labels); label = label }) else None) ≡ Some run
        → (run.first ≡ place) × BeginsAlone labels run
    by_case true passes is =
        let same : record { first = place; last = place + prefix_len (has_label label) (drop (place + 1) labels); label = label } ≡ run = cc in
        let P : LabelRun → Type 0 = λ run. (run.first ≡ place) × BeginsAlone labels run in
        subst P same (refl, begins_alone labels place label passes)
    by_case false passes is = absurd cc

-- runs that are found at later places begin there
abbrev begun_at : List (Option ℕ) → ℕ → Option LabelRun
begun_at labels place = run_with labels place (get_or labels place None)

firsts_rise : (labels : List (Option ℕ)) (first count : ℕ) → AllPairs (λ (a b : LabelRun). a.first < b.first) (filter_map (begun_at labels) (range_with_len first count))
firsts_rise labels first zero = λ i j d less there. absurd (omega (arith, there))
firsts_rise labels first (suc count) = by_case (begun_at labels first) refl (firsts_rise labels (first + 1) count)
  where
    rest : List LabelRun
    rest = filter_map (begun_at labels) (range_with_len (first + 1) count)

    later : All (λ (b : LabelRun). first + 1 ≤ b.first) rest
    later =
        All-found (begun_at labels) (λ (b : LabelRun). first + 1 ≤ b.first) (range_with_len (first + 1) count)
        (λ k d there run is.
        let place : ℕ = get_or (range_with_len (first + 1) count) k d in
        let at = get_or-range_with_len (first + 1) count k d (omega (arith, there, length-range_with_len (first + 1) count)) in
        omega (arith, at, (found_run labels place (get_or labels place None) run is).0))

    by_case : (o : Option LabelRun) → begun_at labels first ≡ o → AllPairs (λ (a b : LabelRun). a.first < b.first) rest
        → AllPairs (λ (a b : LabelRun). a.first < b.first) (cons_option o rest)
    by_case None is pairs = pairs
    by_case (Some run) is pairs =
        let here = (found_run labels first (get_or labels first None) run is).0 in
        AllPairs-cons (λ (a b : LabelRun). a.first < b.first) run rest (λ k d there. omega (arith, here, later k d there)) pairs

-- a run that begins within another would have its label at the place before
apart : (labels : List (Option ℕ)) (a b : LabelRun) → IsRunOf labels a → IsRunOf labels b → BeginsAlone labels b → a.first < b.first → a.last < b.first
apart labels a b run-a run-b alone less =
    elim (cases_lt a.last b.first) [
      | inl after ↦ after
      | inr within ↦
          let k : ℕ = b.first - 1 in
          let next : k + 1 ≡ b.first = omega (arith, less) in
          let before = run-a.labelled k (omega (arith, less)) (omega (arith, within)) in
          let at-a = run-a.labelled b.first (omega (arith, less)) within in
          let at-b = run-b.labelled b.first (omega arith) run-b.order in
          absurd (alone k next (before ∙ sym at-a ∙ at-b))
    ]

pub runs_apart : (labels : List (Option ℕ)) → AllPairs (λ (a b : LabelRun). a.last < b.first) (runs_of labels)
unfolding runs_of
runs_apart labels i j d less there =
    let runs : List LabelRun = filter_map (begun_at labels) (range_with_len 0 (length labels)) in
    let each : All (IsRunOf labels) runs = runs_are_runs labels in
    let alone : All (BeginsAlone labels) runs =
    All-found (begun_at labels) (BeginsAlone labels) (range_with_len 0 (length labels))
    (λ k e inside run is.
    let place : ℕ = get_or (range_with_len 0 (length labels)) k e in
    (found_run labels place (get_or labels place None) run is).1) in
    let there' : i < length runs = omega (arith, less, there) in
    apart labels (get_or runs i d) (get_or runs j d) (each i d there') (each j d there) (alone j d there) (firsts_rise labels 0 (length labels) i j d less there)

-- parts that lie apart, from a place on
parts_after : {X : Type 0} (g : X → ℕ) (xs : List X) (from : ℕ) (parts : List LabelRun) → All (λ (part : LabelRun). (from ≤ part.first) × (part.first ≤ part.last)) parts
    → AllPairs (λ (a b : LabelRun). a.last < b.first) parts
    → sum_by (λ (part : LabelRun). sum_by g (between part.first (part.last + 1) xs)) parts ≤ sum_by g (drop from xs)
parts_after g xs from [] each pairs = omega arith
parts_after {X = X} g xs from (part ∷ parts) each pairs =
    let here = All-head (λ (part : LabelRun). (from ≤ part.first) × (part.first ≤ part.last)) part parts each in
    let others = All-tail (λ (part : LabelRun). (from ≤ part.first) × (part.first ≤ part.last)) part parts each in
    let rest = parts_after g xs (part.last + 1) parts
    (λ k d there. (omega (arith, pairs 0 (suc k) d (omega arith) (omega (arith, there))), (others k d there).1))
    (λ i j d less there. pairs (suc i) (suc j) d (omega (arith, less)) (omega (arith, there))) in
    let this : List X = between part.first (part.last + 1) xs in
    let after = ap (sum_by g) (drop_split xs part.first (part.last + 1) (omega (arith, here.1))) ∙ sum_by-append g this (drop (part.last + 1) xs) in
    let before = ap (sum_by g) (drop_split xs from part.first here.0) ∙ sum_by-append g (between from part.first xs) (drop part.first xs) in
    let first = sum_by-cons (λ (part : LabelRun). sum_by g (between part.first (part.last + 1) xs)) part parts in
    omega (arith, rest, after, before, first)

-- the runs of labels of a list have together no more than the list
pub runs_within : {X : Type 0} (g : X → ℕ) (xs : List X) (labels : List (Option ℕ))
    → sum_by (λ (part : LabelRun). sum_by g (between part.first (part.last + 1) xs)) (runs_of labels) ≤ sum_by g xs
runs_within g xs labels =
    parts_after g xs 0 (runs_of labels) (λ k d there. (omega arith, (runs_are_runs labels k d there).order)) (runs_apart labels)

-- and there are no more than places with a label
pub few_runs : (labels : List (Option ℕ)) (p : ℕ → Bool) → ((place label : ℕ) → place < length labels → get_or labels place None ≡ Some label → p place ≡ true)
    → length (runs_of labels) ≤ count_by p (range_with_len 0 (length labels))
unfolding runs_of
few_runs labels p labelled =
    length-filter_map (begun_at labels) p (range_with_len 0 (length labels))
    (λ k d there run is.
    let place : ℕ = get_or (range_with_len 0 (length labels)) k d in
    let there' : k < length labels = omega (arith, there, length-range_with_len 0 (length labels)) in
    let inside : place < length labels = omega (arith, get_or-range_with_len 0 (length labels) k d there', there') in
    by_label place inside (get_or labels place None) refl run is)
  where
    by_label : (place : ℕ) → place < length labels → (o : Option ℕ) → get_or labels place None ≡ o → (run : LabelRun) → run_with labels place o ≡ Some run → p place ≡ true
    by_label place inside None at run is = absurd cc
    by_label place inside (Some label) at run is = labelled place label inside at
