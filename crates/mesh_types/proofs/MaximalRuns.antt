-- Each place with a label stands in a maximal run, and each maximal run is listed.
use Rattle.std.proofs.Common.{◌≡◌, ℕ, zero, suc, ◌+◌, ◌-◌, ◌<◌, ◌≤◌, Bool, true, false, List, [], ◌∷◌, length, drop, get_or, Option, ap, ◌∙◌, sym, refl, subst, arith, inl, inr}
use Rattle.std.specs.Prelude.{None, Some, All, Contains, ◌==◌, ◌||◌, not, if◌then◌else◌}
use Rattle.std.specs.List.{filter_map, cons_option, prefix_len, range_with_len}
use Rattle.std.proofs.lemmas.Bool.{cases_lt, cases_order, both_ways, eq-eqb, cond-true, or_right}
use Rattle.std.proofs.lemmas.List.{get_or-drop, get_or_past, length-drop}
use Rattle.std.proofs.lemmas.List.Elements.{All-contains, Contains-append_right}
use Rattle.std.proofs.lemmas.List.Sums.{prefix_len_stops}
use Rattle.std.proofs.lemmas.Option.{none-some, same_Some}
use Rattle.std.proofs.lemmas.List.FromFn.{get_or-range_with_len, length-range_with_len}
use Rattle.mesh_types.specs.declared.region.LabelRun.{LabelRun}
use Rattle.mesh_types.specs.Runs.{has_label, run_with, runs_of}
use Rattle.mesh_types.proofs.RunLaws.{IsRunOf, All-found, label_is, run_is}
use Rattle.mesh_types.proofs.RunTotals.{BeginsAlone, found_run}

-- the place after a run does not have the run's label
abbrev pub EndsAlone : List (Option ℕ) → LabelRun → Type 0
EndsAlone labels run = get_or labels (run.last + 1) None ≡ Some run.label → ⊥

-- a maximal range of places that all have one label
pub record IsMaximal (labels : List (Option ℕ)) (run : LabelRun) : Type 0 where
  pub range : IsRunOf labels run
  pub begins : BeginsAlone labels run
  pub ends : EndsAlone labels run

ends_alone : (labels : List (Option ℕ)) (place label : ℕ)
    → get_or labels (place + prefix_len (has_label label) (drop (place + 1) labels) + 1) None ≡ Some label → ⊥
ends_alone labels place label after =
    let rest : List (Option ℕ) = drop (place + 1) labels in
    let n : ℕ = prefix_len (has_label label) rest in
    elim (cases_lt n (length rest)) [
      | inl inside ↦
          let at : get_or rest n None ≡ get_or labels (place + n + 1) None =
          get_or-drop (place + 1) labels n None ∙ ap (λ j. get_or labels j None) {x = place + 1 + n} {y = place + n + 1} (omega arith) in
          both_ways (has_label label (get_or rest n None)) (prefix_len_stops (has_label label) rest None inside)
          (ap (has_label label) (at ∙ after) ∙ eq-eqb label label refl)
      | inr past ↦ none-some label (sym (get_or_past labels (place + n + 1) None (omega (arith, past, length-drop (place + 1) labels))) ∙ after)
    ]

-- the run that begins at a place
record IsBegun (labels : List (Option ℕ)) (place : ℕ) (run : LabelRun) : Type 0 where
  maximal : IsMaximal labels run
  first : run.first ≡ place

begun_run : (labels : List (Option ℕ)) (place : ℕ) (run : LabelRun) → place < length labels → (o : Option ℕ) → get_or labels place None ≡ o
    → run_with labels place o ≡ Some run → IsBegun labels place run
begun_run labels place run there None at is = absurd (none-some run is)
begun_run labels place run there (Some label) at is =
    by_case (place == 0 || not (has_label label (get_or labels (place - 1) None))) is
  where
    by_case : (b : Bool)
        → (if b then Some (record { first = place; last = place + prefix_len (has_label label) (drop (place + 1) labels); label = label }) else None) ≡ Some run
        → IsBegun labels place run
    by_case true made =
        let same : record { first = place; last = place + prefix_len (has_label label) (drop (place + 1) labels); label = label } ≡ run = same_Some _ run made in
        let begins = (found_run labels place (Some label) run is).1 in
        record {
          maximal = record {
            range = run_is labels place run there (Some label) at is;
            begins = begins;
            ends = subst (EndsAlone labels) same (ends_alone labels place label);
          };
          first = ap (λ (r : LabelRun). r.first) (sym same);
        }
    by_case false made = absurd (none-some run made)

-- all runs that are listed are maximal
pub runs_are_maximal : (labels : List (Option ℕ)) → All (IsMaximal labels) (runs_of labels)
unfolding runs_of
runs_are_maximal labels =
    All-found (λ place. run_with labels place (get_or labels place None)) (IsMaximal labels) (range_with_len 0 (length labels))
    (λ k d there run is.
    let place : ℕ = get_or (range_with_len 0 (length labels)) k d in
    let there' : k < length labels = omega (arith, there, length-range_with_len 0 (length labels)) in
    (begun_run labels place run (omega (arith, get_or-range_with_len 0 (length labels) k d there', there')) (get_or labels place None) refl is).maximal)

-- what a look-up finds at a place stands among all that it finds
pub Contains-filter_map : {X Y : Type 0} (h : X → Option Y) (xs : List X) (k : ℕ) (d : X) (y : Y) → k < length xs → h (get_or xs k d) ≡ Some y
    → Contains (filter_map h xs) y
Contains-filter_map h [] k d y there is = absurd (omega (arith, there))
Contains-filter_map {Y = Y} h (x ∷ xs) zero d y there is =
    let P : Option Y → Type 0 = λ o. Contains (cons_option o (filter_map h xs)) y in
    subst P (sym is) (0, omega arith, refl)
Contains-filter_map {Y = Y} h (x ∷ xs) (suc k) d y there is =
    by_case (h x) (Contains-filter_map h xs k d y (omega (arith, there)) is)
  where
    by_case : (o : Option Y) → Contains (filter_map h xs) y → Contains (cons_option o (filter_map h xs)) y
    by_case None held = held
    by_case (Some z) held = Contains-append_right (z ∷ []) (filter_map h xs) y held

-- back from a place to where its run begins
record BeginsRun (labels : List (Option ℕ)) (k label : ℕ) : Type 0 where
  begin : ℕ
  before : begin ≤ k
  labelled : (j : ℕ) → begin ≤ j → j ≤ k → get_or labels j None ≡ Some label
  alone : (begin == 0 || not (has_label label (get_or labels (begin - 1) None))) ≡ true

begin_of : (labels : List (Option ℕ)) (k label : ℕ) → get_or labels k None ≡ Some label → BeginsRun labels k label
begin_of labels zero label is = record {
  begin = 0;
  before = omega arith;
  labelled = λ j least most. ap (λ n. get_or labels n None) {x = j} {y = 0} (omega (arith, most)) ∙ is;
  alone = refl;
}
begin_of labels (suc k) label is = by_case (has_label label (get_or labels k None)) refl (λ before. begin_of labels k label before)
  where
    by_case : (b : Bool) → has_label label (get_or labels k None) ≡ b → (get_or labels k None ≡ Some label → BeginsRun labels k label)
        → BeginsRun labels (suc k) label
    by_case true has further =
        let from = further (label_is label (get_or labels k None) has) in
        record {
          begin = from.begin;
          before = omega (arith, from.before);
          labelled = λ j least most. elim (cases_lt k j) [
            | inl after ↦ ap (λ n. get_or labels n None) {x = j} {y = suc k} (omega (arith, after, most)) ∙ is
            | inr inside ↦ from.labelled j least inside
          ];
          alone = from.alone;
        }
    by_case false other further = record {
      begin = suc k;
      before = omega arith;
      labelled = λ j least most. ap (λ n. get_or labels n None) {x = j} {y = suc k} (omega (arith, least, most)) ∙ is;
      alone = or_right _ _ (ap (λ n. not (has_label label (get_or labels n None))) {x = suc k - 1} {y = k} (omega arith) ∙ ap not other);
    }

-- the run that a place with a label stands in
pub record StandsInRun (labels : List (Option ℕ)) (k label : ℕ) : Type 0 where
  pub run : LabelRun
  pub listed : Contains (runs_of labels) run
  pub first : run.first ≤ k
  pub last : k ≤ run.last
  pub same : run.label ≡ label

pub run_found : (labels : List (Option ℕ)) (k label : ℕ) → k < length labels → get_or labels k None ≡ Some label → StandsInRun labels k label
unfolding runs_of
run_found labels k label there is =
    let from = begin_of labels k label is in
    let place : ℕ = from.begin in
    let run : LabelRun = record { first = place; last = place + prefix_len (has_label label) (drop (place + 1) labels); label = label } in
    let at = from.labelled place (omega arith) from.before in
    let made : run_with labels place (get_or labels place None) ≡ Some run =
    ap (run_with labels place) at ∙ cond-true (place == 0 || not (has_label label (get_or labels (place - 1) None))) (Some run) None from.alone in
    let inside : place < length labels = omega (arith, there, from.before) in
    let number : get_or (range_with_len 0 (length labels)) place 0 ≡ place =
    get_or-range_with_len 0 (length labels) place 0 inside ∙ omega arith in
    record {
      run = run;
      listed = Contains-filter_map (λ p. run_with labels p (get_or labels p None)) (range_with_len 0 (length labels)) place 0 run
          (omega (arith, inside, length-range_with_len 0 (length labels)))
          (ap (λ p. run_with labels p (get_or labels p None)) number ∙ made);
      first = from.before;
      last = elim (cases_lt run.last k) [
        | inl less ↦ absurd (ends_alone labels place label (from.labelled (run.last + 1) (omega arith) (omega (arith, less))))
        | inr more ↦ more
      ];
      same = refl;
    }

-- of two maximal runs with a place in common the one is the other
same_run : (labels : List (Option ℕ)) (a b : LabelRun) (k : ℕ) → IsMaximal labels a → IsMaximal labels b → a.first ≤ k → k ≤ a.last → b.first ≤ k → k ≤ b.last
    → a ≡ b
same_run labels a b k is-a is-b low-a high-a low-b high-b =
    let label : a.label ≡ b.label = same_Some a.label b.label (sym (is-a.range.labelled k low-a high-a) ∙ is-b.range.labelled k low-b high-b) in
    let first : a.first ≡ b.first = elim (cases_order a.first b.first) [
      | inl same ↦ same
      | inr (inl less) ↦ absurd (begins_before a b k is-a is-b less low-b high-a label)
      | inr (inr more) ↦ absurd (begins_before b a k is-b is-a more low-a high-b (sym label))
    ] in
    let last : a.last ≡ b.last = elim (cases_order a.last b.last) [
      | inl same ↦ same
      | inr (inl less) ↦ absurd (ends_before a b k is-a is-b less low-b high-a label)
      | inr (inr more) ↦ absurd (ends_before b a k is-b is-a more low-a high-b (sym label))
    ] in
    ap (λ (n : ℕ). made n a.last a.label) first ∙ ap (λ (n : ℕ). made b.first n a.label) last ∙ ap (made b.first b.last) label
  where
    made : ℕ → ℕ → ℕ → LabelRun
    made first last label = record { first = first; last = last; label = label }

    begins_before : (a b : LabelRun) (k : ℕ) → IsMaximal labels a → IsMaximal labels b → a.first < b.first → b.first ≤ k → k ≤ a.last → a.label ≡ b.label → ⊥
    begins_before a b k is-a is-b less low high label =
        is-b.begins (b.first - 1) (omega (arith, less))
        (is-a.range.labelled (b.first - 1) (omega (arith, less)) (omega (arith, low, high)) ∙ ap (λ (n : ℕ). Some n) label)

    ends_before : (a b : LabelRun) (k : ℕ) → IsMaximal labels a → IsMaximal labels b → a.last < b.last → b.first ≤ k → k ≤ a.last → a.label ≡ b.label → ⊥
    ends_before a b k is-a is-b less low high label =
        is-a.ends (is-b.range.labelled (a.last + 1) (omega (arith, low, high)) (omega (arith, less)) ∙ ap (λ (n : ℕ). Some n) (sym label))

-- each maximal run is listed
pub maximal_listed : (labels : List (Option ℕ)) (run : LabelRun) → IsMaximal labels run → Contains (runs_of labels) run
maximal_listed labels run is =
    let order : run.first ≤ run.last = is.range.order in
    let found = run_found labels run.first run.label (omega (arith, order, is.range.inside)) (is.range.labelled run.first (omega arith) order) in
    let maximal = All-contains (IsMaximal labels) (runs_of labels) found.run (runs_are_maximal labels) found.listed in
    let P : LabelRun → Type 0 = Contains (runs_of labels) in
    subst P (same_run labels found.run run run.first maximal is found.first found.last (omega arith) order) found.listed

-- the places with a label in one list are those with a label in another, so many places further on
pub record AreMirrored (labels others : List (Option ℕ)) (label other here there : ℕ) : Type 0 where
  pub forth : (k : ℕ) → get_or labels k None ≡ Some label → (j : ℕ) × (j + here ≡ k + there) × (get_or others j None ≡ Some other)
  pub back : (j : ℕ) → get_or others j None ≡ Some other → (k : ℕ) × (j + here ≡ k + there) × (get_or labels k None ≡ Some label)

-- a maximal run, as the other list has it
pub record IsMirroredRun (others : List (Option ℕ)) (other here there : ℕ) (run : LabelRun) : Type 0 where
  pub mirrored : LabelRun
  pub maximal : IsMaximal others mirrored
  pub label : mirrored.label ≡ other
  pub first : mirrored.first + here ≡ run.first + there
  pub last : mirrored.last + here ≡ run.last + there

pub mirrored_run : (labels others : List (Option ℕ)) (label other here there : ℕ) (run : LabelRun) → AreMirrored labels others label other here there
    → IsMaximal labels run → run.label ≡ label → IsMirroredRun others other here there run
mirrored_run labels others label other here there run mirror is same =
    let order : run.first ≤ run.last = is.range.order in
    let begin = mirror.forth run.first (labelled run.first (omega arith) order) in
    let end = mirror.forth run.last (labelled run.last order (omega arith)) in
    record {
      mirrored = record { first = begin.0; last = end.0; label = other };
      maximal = record {
        range = record {
          order = omega (arith, begin.1, end.1, order);
          inside = within end.0 end.2;
          labelled = λ j least most.
              let k : ℕ = run.first + (j - begin.0) in
              let at = mirror.forth k (labelled k (omega arith) (omega (arith, begin.1, end.1, least, most))) in
              ap (λ n. get_or others n None) {x = j} {y = at.0} (omega (arith, at.1, begin.1, least)) ∙ at.2;
        };
        begins = λ j next has.
            let at = mirror.back j has in
            is.begins at.0 (omega (arith, at.1, begin.1, next)) (at.2 ∙ ap (λ (n : ℕ). Some n) (sym same));
        ends = λ has.
            let at = mirror.back (end.0 + 1) has in
            let next : at.0 ≡ run.last + 1 = omega (arith, at.1, end.1) in
            is.ends (ap (λ n. get_or labels n None) (sym next) ∙ at.2 ∙ ap (λ (n : ℕ). Some n) (sym same));
      };
      label = refl;
      first = begin.1;
      last = end.1;
    }
  where
    labelled : (k : ℕ) → run.first ≤ k → k ≤ run.last → get_or labels k None ≡ Some label
    labelled k least most = is.range.labelled k least most ∙ ap (λ (n : ℕ). Some n) same

    within : (j : ℕ) → get_or others j None ≡ Some other → j < length others
    within j has = elim (cases_lt j (length others)) [
      | inl inside ↦ inside
      | inr past ↦ absurd (none-some other (sym (get_or_past others j None past) ∙ has))
    ]
