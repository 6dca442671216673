-- Each cell is in exactly one strip of exactly one region.
use Rattle.std.proofs.Common.{◌≡◌, ℕ, ◌+◌, ◌-◌, ◌<◌, ◌≤◌, Bool, true, false, length, List, [], ◌∷◌, map, get_or, ap, ◌∙◌, sym, refl, subst, arith, zero, suc, inl, inr, Option, Some, None}
use Rattle.std.specs.Prelude.{◌==◌, cond, All, slice_get}
use Rattle.std.specs.List.{list_any, range_with_len, sum_by, count_by}
use Rattle.std.specs.Option.{option_map_or}
use Rattle.std.proofs.lemmas.Bool.{cases_Bool, cases_lt, cases_order, eqb-true, eq-eqb, ne_eqb, and_from, and_parts, both_ways, le-leb, leb-true, false_from_ne_true, not_from_true, not_from_false}
use Rattle.std.proofs.lemmas.List.{length-map, get_or-map, get_or_default}
use Rattle.std.proofs.lemmas.List.Elements.{All-head, All-tail}
use Rattle.std.proofs.lemmas.List.Folds.{list_any_at}
use Rattle.std.proofs.lemmas.List.FromFn.{get_or-range_with_len, length-range_with_len}
use Rattle.std.proofs.lemmas.List.Sums.{sum_by-cons}
use Rattle.std.proofs.lemmas.Option.{slice_get-get_or, slice_get_past}
use Rattle.nav_ground.specs.declared.cell.Cell.{Cell}
use Rattle.nav_ground.specs.declared.cell.CellRef.{CellRef}
use Rattle.nav_ground.specs.Cells.{IsCut}
use Rattle.cell_table.proofs.Places.{same_test}
use Rattle.cell_table.proofs.Tables.{one_index}
use Rattle.mesh_types.specs.declared.region.Region.{Region}
use Rattle.mesh_types.specs.StripPolygons.{some_cell, strip_runs}
use Rattle.mesh_types.specs.Regions.{numbers, joins, chain_from, begins_region, regions_of, is_holding, times_held, HoldsEachOnce}
use Rattle.mesh_types.proofs.Totals.{sum_by-map, sum_by-filter, sum_by-range_same}
use Rattle.mono_regions.specs.Indices.{cell_at, level_at, index_runs, owner_of, strip_at}
use Rattle.mono_regions.specs.Joining.{indices_of, touched_from, joined_from}
use Rattle.mono_regions.proofs.Owners.{owner_there}
use Rattle.mono_regions.proofs.StripLaws.{owner_is, run_columns}
use Rattle.mono_regions.proofs.Scans.{any_where}
use Rattle.mono_regions.proofs.Touches.{strip_count, strip_indices, held_by}
use Rattle.mono_regions.proofs.JoinLaws.{same_number, one_alone, joins_below, joined_one, joined_back}
use Rattle.mono_regions.proofs.Upon.{same_place, strip_number, strip_made, after}
use Rattle.mono_regions.proofs.Following.{chain_at}
use Rattle.mono_regions.proofs.Gathered.{begins_below, region_at, regions_are}
use Rattle.mono_regions.proofs.Stacks.{chain_small}

-- a strip holds a cell exactly where it is the cell's own
holding_is : (cells : List Cell) → IsCut cells → (i s : ℕ) → i < length cells → s < length (strip_runs cells)
    → is_holding (cell_at cells i).at (strip_number cells s) ≡ (s == owner_of cells i)
holding_is cells cut i s inside there =
    ap (is_holding (cell_at cells i).at) (sym (strip_made cells cut.rules s there)) ∙ same_test _ _ forth back
  where
    run : List ℕ
    run = indices_of cells s

    at : CellRef
    at = (cell_at cells i).at

    first : Cell
    first = cell_at cells (get_or run 0 0)

    levels : List ℕ
    levels = map (level_at cells) run

    there' : s < length (index_runs cells)
    there' = omega (arith, there, strip_count cells)

    -- the level that a strip has in a column is that of a cell of it
    level_in : (k : ℕ) → (o : Option ℕ) → slice_get levels k ≡ o → option_map_or (λ level. level == at.level) o false ≡ true
        → (k < length run) × ((cell_at cells (get_or run k 0)).at.level ≡ at.level)
    level_in k None is h = absurd (both_ways false refl h)
    level_in k (Some level) is h = elim (cases_lt k (length levels)) [
      | inl less ↦
          let less' : k < length run = omega (arith, less, length-map run (level_at cells)) in (
            less',
            sym (get_or-map (level_at cells) run k 0 0 less')
                ∙ same_number (get_or levels k 0) level (sym (slice_get-get_or levels k 0 less) ∙ is) ∙ eqb-true level at.level h,
          )
      | inr past ↦ absurd (none level (sym (slice_get_past levels k past) ∙ is))
    ]
      where
        none : (a : ℕ) → None ≡ Some a → ⊥
        none a e = both_ways (option_map_or (λ n. true) (Some a) false) (ap (λ (o : Option ℕ). option_map_or (λ n. true) o false) (sym e)) refl

    forth : is_holding at (strip_at cells run) ≡ true → (s == owner_of cells i) ≡ true
    forth h =
        let parts = and_parts _ _ h in
        let parts' = and_parts _ _ parts.0 in
        let row : first.at.z ≡ at.z = eqb-true _ _ parts'.0 in
        let least : first.at.x ≤ at.x = leb-true _ _ parts'.1 in
        let k : ℕ = at.x - first.at.x in
        let level = level_in k (slice_get levels k) refl parts.1 in
        let place = run_columns cells cut.rules s k 0 there' level.0 in
        let same : (cell_at cells (get_or run k 0)).at ≡ at =
        same_place (cell_at cells (get_or run k 0)).at at (omega (arith, place.x, least)) (place.z ∙ row) level.1 in
        let index : get_or run k 0 ≡ i = one_index cells cut.rules (get_or run k 0) i some_cell ((strip_indices cells cut.rules s there).each k 0 level.0) inside same in
        eq-eqb s (owner_of cells i) (sym (owner_is cells cut s there' k 0 level.0) ∙ ap (owner_of cells) index)

    back : (s == owner_of cells i) ≡ true → is_holding at (strip_at cells run) ≡ true
    back h =
        let w = any_where (λ j. j == i) run 0
        (held_by cells cut i s inside there' ∙ eq-eqb (owner_of cells i) s (sym (eqb-true s (owner_of cells i) h))) in
        let k : ℕ = w.0 in
        let index : get_or run k 0 ≡ i = eqb-true (get_or run k 0) i w.2 in
        let place = run_columns cells cut.rules s k 0 there' w.1 in
        let column : at.x ≡ first.at.x + k = ap (λ j. (cell_at cells j).at.x) (sym index) ∙ place.x in
        let row : first.at.z ≡ at.z = sym place.z ∙ ap (λ j. (cell_at cells j).at.z) index in
        let level : slice_get levels (at.x - first.at.x) ≡ Some at.level =
        ap (slice_get levels) {x = at.x - first.at.x} {y = k} (omega (arith, column))
        ∙ slice_get-get_or levels k 0 (omega (arith, w.1, length-map run (level_at cells)))
        ∙ ap (λ (n : ℕ). Some n) (get_or-map (level_at cells) run k 0 0 w.1 ∙ ap (level_at cells) index) in
        and_from _ _ (and_from _ _ (eq-eqb first.at.z at.z row) (le-leb first.at.x at.x (omega (arith, column))))
        (ap (λ (o : Option ℕ). option_map_or (λ level. level == at.level) o false) level ∙ eq-eqb at.level at.level refl)

-- how often a number stands in the chain from a strip on
abbrev pub times : ℕ → List ℕ → ℕ
times s numbers = count_by (λ t. t == s) numbers

abbrev pub once_if : Bool → ℕ
once_if b = cond b 1 0

times_cons : (s t : ℕ) (ts : List ℕ) → times s (t ∷ ts) ≡ once_if (t == s) + times s ts
times_cons s t ts = sum_by-cons (λ k. once_if (k == s)) t ts

-- the counts of two numbers, of which one joins the other
times_after : (cells : List Cell) → IsCut cells → (r s n f : ℕ) → r < length (strip_runs cells) → s < length (strip_runs cells)
    → joins (strip_runs cells) r s ≡ true → f < length (strip_runs cells) → length (strip_runs cells) ≤ f + n
    → times s (chain_from (strip_runs cells) n f) ≡ once_if (f == s) + times r (chain_from (strip_runs cells) n f)
unfolding chain_from
times_after cells cut r s zero f here there joined small most = absurd (omega (arith, small, most))
times_after cells cut r s (suc n) f here there joined small most =
    times_cons s f (option_map_or (chain_from (strip_runs cells) n) (joined_from (strip_runs cells) f) [])
    ∙ by_case (joined_from (strip_runs cells) f) refl
    (λ t small' less. times_after cells cut r s n t here there joined small' (omega (arith, less, most)))
    ∙ ap (λ k. once_if (f == s) + k) (sym (times_cons r f (option_map_or (chain_from (strip_runs cells) n) (joined_from (strip_runs cells) f) [])))
  where
    by_case : (o : Option ℕ) → joined_from (strip_runs cells) f ≡ o
        → ((t : ℕ) → t < length (strip_runs cells) → f < t
        → times s (chain_from (strip_runs cells) n t) ≡ once_if (t == s) + times r (chain_from (strip_runs cells) n t))
        → once_if (f == s) + times s (option_map_or (chain_from (strip_runs cells) n) o [])
        ≡ once_if (f == s) + (once_if (f == r) + times r (option_map_or (chain_from (strip_runs cells) n) o []))
    by_case None is further =
        let apart : (f == r) ≡ false = ne_eqb f r (λ e. none s (sym (joined_one cells cut r s here there joined) ∙ ap (joined_from (strip_runs cells)) (sym e) ∙ is)) in
        ap (λ b. once_if (f == s) + (once_if b + 0)) (sym apart)
      where
        none : (a : ℕ) → Some a ≡ None → ⊥
        none a e = both_ways (option_map_or (λ n. true) (Some a) false) (ap (λ (o : Option ℕ). option_map_or (λ n. true) o false) e) refl
    by_case (Some t) is further =
        let next = joined_back cells f t is in
        let same : (t == s) ≡ (f == r) = same_test _ _
        (λ h.
        let e : t ≡ s = eqb-true t s h in
        let joined' : joins (strip_runs cells) f s ≡ true = ap (joins (strip_runs cells) f) (sym e) ∙ next.1 in
        eq-eqb f r (one_alone (touched_from cells 3 s) r f (joins_below cells cut r s here there joined) (joins_below cells cut f s small there joined')))
        (λ h. eq-eqb t s (same_number t s (sym is ∙ ap (joined_from (strip_runs cells)) (eqb-true f r h) ∙ joined_one cells cut r s here there joined))) in
        ap (λ k. once_if (f == s) + k) (further t next.0 (after cells cut f t small next.0 next.1)
        ∙ ap (λ b. once_if b + times r (chain_from (strip_runs cells) n t)) same)

-- a number that none joins stands in its own chain alone
times_first : (cells : List Cell) (s n f : ℕ) → ((r : ℕ) → r < length (strip_runs cells) → joins (strip_runs cells) r s ≡ false)
    → s < length (strip_runs cells) → f < length (strip_runs cells)
    → times s (chain_from (strip_runs cells) n f) ≡ once_if (f == s)
unfolding chain_from
times_first cells s zero f none there small = times_cons s f [] ∙ omega arith
times_first cells s (suc n) f none there small =
    times_cons s f (option_map_or (chain_from (strip_runs cells) n) (joined_from (strip_runs cells) f) [])
    ∙ by_case (joined_from (strip_runs cells) f) refl (λ t small'. times_first cells s n t none there small')
  where
    by_case : (o : Option ℕ) → joined_from (strip_runs cells) f ≡ o
        → ((t : ℕ) → t < length (strip_runs cells) → times s (chain_from (strip_runs cells) n t) ≡ once_if (t == s))
        → once_if (f == s) + times s (option_map_or (chain_from (strip_runs cells) n) o []) ≡ once_if (f == s)
    by_case None is further = omega arith
    by_case (Some t) is further =
        let next = joined_back cells f t is in
        let apart : (t == s) ≡ false = ne_eqb t s (λ e. both_ways _ (none f small) (ap (joins (strip_runs cells) f) (sym e) ∙ next.1)) in
        let zero_times : times s (chain_from (strip_runs cells) n t) ≡ 0 = further t next.0 ∙ ap once_if apart in
        omega (arith, zero_times)

-- one number of a range is a given one
sum_none : (s first count : ℕ) → s < first → sum_by (λ f. once_if (f == s)) (range_with_len first count) ≡ 0
sum_none s first zero less = refl
sum_none s first (suc count) less =
    let apart : (first == s) ≡ false = ne_eqb first s (λ e. omega (arith, less, e)) in
    let rest = sum_none s (first + 1) count (omega (arith, less)) in
    omega (arith, sum_by-cons (λ f. once_if (f == s)) first (range_with_len (first + 1) count), ap once_if apart, rest)

sum_one : (s first count : ℕ) → first ≤ s → s < first + count → sum_by (λ f. once_if (f == s)) (range_with_len first count) ≡ 1
sum_one s first zero least most = absurd (omega (arith, least, most))
sum_one s first (suc count) least most = elim (cases_Bool (first == s)) [
  | inl same ↦
      let e : first ≡ s = eqb-true first s same in
      let rest = sum_none s (first + 1) count (omega (arith, e)) in
      omega (arith, sum_by-cons (λ f. once_if (f == s)) first (range_with_len (first + 1) count), ap once_if same, rest)
  | inr apart ↦
      let less : first < s = elim (cases_order first s) [
        | inl same ↦ absurd (both_ways _ apart (eq-eqb first s same))
        | inr (inl less) ↦ less
        | inr (inr more) ↦ absurd (omega (arith, least, more))
      ] in
      let rest = sum_one s (first + 1) count (omega (arith, less)) (omega (arith, most)) in
      omega (arith, sum_by-cons (λ f. once_if (f == s)) first (range_with_len (first + 1) count), ap once_if apart, rest)
]

-- how often a strip's number stands in all regions
abbrev all_times : List Cell → ℕ → ℕ
all_times cells s = sum_by (λ f. cond (begins_region (strip_runs cells) f) (times s (chain_at cells f)) 0) (numbers (strip_runs cells))

begins_fails : (cells : List Cell) (f r : ℕ) → r < length (strip_runs cells) → joins (strip_runs cells) r f ≡ true → begins_region (strip_runs cells) f ≡ false
begins_fails cells f r small joined =
    let runs : List (List Cell) = strip_runs cells in
    let P : ℕ → Type 0 = λ q. joins runs q f ≡ true in
    let at : get_or (numbers runs) r 0 ≡ r = get_or-range_with_len 0 (length runs) r 0 small ∙ omega arith in
    not_from_true _ (list_any_at (λ q. joins runs q f) (numbers runs) r 0 (omega (arith, small, length-range_with_len 0 (length runs))) (subst P (sym at) joined))

-- each stands there once
once_below : (cells : List Cell) → IsCut cells → (n s : ℕ) → s < n → s < length (strip_runs cells) → all_times cells s ≡ 1
once_below cells cut zero s below there = absurd (omega (arith, below))
once_below cells cut (suc n) s below there = elim (cases_Bool (list_any (λ r. joins runs r s) (numbers runs))) [
  | inl some ↦
      let w = any_where (λ r. joins runs r s) (numbers runs) 0 some in
      let r : ℕ = w.0 in
      let small : r < length runs = omega (arith, w.1, length-range_with_len 0 (length runs)) in
      let P : ℕ → Type 0 = λ q. joins runs q s ≡ true in
      let joined : joins runs r s ≡ true = subst P (get_or-range_with_len 0 (length runs) r 0 small ∙ omega arith) w.2 in
      sum_by-range_same (λ f. cond (begins_region runs f) (times s (chain_at cells f)) 0) (λ f. cond (begins_region runs f) (times r (chain_at cells f)) 0)
      0 (length runs) (λ f least most. followed r small joined f (omega (arith, most)) (begins_region runs f) refl)
      ∙ once_below cells cut n r (omega (arith, below, after cells cut r s small there joined)) small
  | inr none ↦
      sum_by-range_same (λ f. cond (begins_region runs f) (times s (chain_at cells f)) 0) (λ f. once_if (f == s))
      0 (length runs) (λ f least most. first none f (omega (arith, most)) (begins_region runs f) refl)
      ∙ sum_one s 0 (length runs) (omega arith) (omega (arith, there))
]
  where
    runs : List (List Cell)
    runs = strip_runs cells

    followed : (r : ℕ) → r < length runs → joins runs r s ≡ true → (f : ℕ) → f < length runs → (b : Bool) → begins_region runs f ≡ b
        → cond b (times s (chain_at cells f)) 0 ≡ cond b (times r (chain_at cells f)) 0
    followed r small joined f inside false begins = refl
    followed r small joined f inside true begins =
        let apart : (f == s) ≡ false =
        ne_eqb f s (λ e. both_ways (begins_region runs f) (begins_fails cells f r small (ap (joins runs r) e ∙ joined)) begins) in
        times_after cells cut r s (length runs) f small there joined inside (omega arith)
        ∙ ap (λ b. once_if b + times r (chain_at cells f)) apart
        ∙ omega arith

    first : list_any (λ r. joins runs r s) (numbers runs) ≡ false → (f : ℕ) → f < length runs → (b : Bool) → begins_region runs f ≡ b
        → cond b (times s (chain_at cells f)) 0 ≡ once_if (f == s)
    first none f inside true begins = times_first cells s (length runs) f unjoined there inside
      where
        unjoined : (r : ℕ) → r < length runs → joins runs r s ≡ false
        unjoined r small = false_from_ne_true (joins runs r s) (λ h. both_ways (begins_region runs s) (begins_fails cells s r small h) (not_from_false _ none))
    first none f inside false begins =
        let apart : (f == s) ≡ false =
        ne_eqb f s (λ e. both_ways (begins_region runs f) begins (ap (begins_region runs) e ∙ not_from_false _ none)) in
        sym (ap once_if apart)

count_by-same : {X : Type 0} (p q : X → Bool) (xs : List X) → All (λ x. p x ≡ q x) xs → count_by p xs ≡ count_by q xs
count_by-same p q [] each = refl
count_by-same p q (x ∷ xs) each =
    let here = All-head (λ y. p y ≡ q y) x xs each in
    let rest = count_by-same p q xs (All-tail (λ y. p y ≡ q y) x xs each) in
    sum_by-cons (λ y. once_if (p y)) x xs
    ∙ ap (λ b. once_if b + count_by p xs) here
    ∙ ap (λ k. once_if (q x) + k) rest
    ∙ sym (sum_by-cons (λ y. once_if (q y)) x xs)

count_by-map : {X Y : Type 0} (p : Y → Bool) (f : X → Y) (xs : List X) → count_by p (map f xs) ≡ count_by (λ x. p (f x)) xs
count_by-map p f xs = sum_by-map (λ y. once_if (p y)) f xs

pub held_once : (cells : List Cell) → IsCut cells → HoldsEachOnce cells (regions_of cells)
held_once cells cut = by_index
  where
    runs : List (List Cell)
    runs = strip_runs cells

    in_chain : (i f : ℕ) → i < length cells → f < length runs
        → count_by (is_holding (cell_at cells i).at) (region_at cells f).strips ≡ times (owner_of cells i) (chain_at cells f)
    in_chain i f inside small =
        count_by-map (is_holding (cell_at cells i).at) (strip_number cells) (chain_at cells f)
        ∙ count_by-same (λ s. is_holding (cell_at cells i).at (strip_number cells s)) (λ s. s == owner_of cells i) (chain_at cells f)
        (λ k d there. holding_is cells cut i (get_or (chain_at cells f) k d) inside (chain_small cells (length runs) f small k d there))

    by_index : HoldsEachOnce cells (regions_of cells)
    by_index i d inside =
        let s : ℕ = owner_of cells i in
        let count : Region → ℕ = λ (region : Region). count_by (is_holding (cell_at cells i).at) region.strips in
        ap (λ (cell : Cell). times_held cell.at (regions_of cells)) (get_or_default cells i d some_cell inside)
        ∙ ap (sum_by count) (regions_are cells)
        ∙ sum_by-map count (region_at cells) (begins_below cells (length runs))
        ∙ sum_by-filter (λ f. count (region_at cells f)) (begins_region runs) (numbers runs)
        ∙ sum_by-range_same (λ f. cond (begins_region runs f) (count (region_at cells f)) 0) (λ f. cond (begins_region runs f) (times s (chain_at cells f)) 0) 0 (length runs)
        (λ f least most. ap (λ k. cond (begins_region runs f) k 0) (in_chain i f inside (omega (arith, most))))
        ∙ once_below cells cut (length runs) s (omega (arith, owner_there cells cut i inside, strip_count cells)) (omega (arith, owner_there cells cut i inside, strip_count cells))
