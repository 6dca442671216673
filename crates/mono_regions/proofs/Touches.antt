-- What strips touch, by the indices of their cells.
use Rattle.std.proofs.Common.{◌≡◌, ℕ, ◌+◌, ◌-◌, ◌<◌, ◌≤◌, Bool, true, false, length, List, [], map, get_or, ap, ◌∙◌, sym, refl, subst, arith, inl, inr, Option, Some, None}
use Rattle.std.specs.Prelude.{◌==◌, ◌&&◌, ◌||◌, not, nat_le, slice_get}
use Rattle.std.specs.List.{list_any, list_all, range_with_len}
use Rattle.std.proofs.lemmas.Bool.{cases_lt, eqb-true, eq-eqb, and_from, and_parts, le-leb, leb-true, both_ways}
use Rattle.std.proofs.lemmas.List.{length-map, get_or-map}
use Rattle.std.proofs.lemmas.List.Folds.{list_any_at, list_all-map, fold-map}
use Rattle.std.proofs.lemmas.List.FromFn.{get_or-map-range_with_len, length-map-range_with_len, get_or-range_with_len, length-range_with_len}
use Rattle.std.proofs.lemmas.List.Quantifiers.{position-Some}
use Rattle.std.proofs.lemmas.List.Sums.{passes_at_first}
use Rattle.std.proofs.lemmas.Option.{slice_get-get_or, slice_get_past}
use Rattle.nav_ground.specs.declared.cell.Cell.{Cell}
use Rattle.nav_ground.specs.Cells.{IsCells, IsCut}
use Rattle.nav_ground.proofs.Selections.{list_any-map}
use Rattle.cell_table.specs.Table.{index_named, indices_named, neighbour_table}
use Rattle.cell_table.proofs.Places.{same_test}
use Rattle.mesh_types.specs.StripPolygons.{some_cell, strip_runs, first_of}
use Rattle.mesh_types.specs.StripLinks.{holds_named}
use Rattle.mesh_types.specs.Regions.{numbers, run_of, is_touching, touches_only, are_connected, joins}
use Rattle.mesh_types.proofs.Words.{has_column}
use Rattle.mono_regions.specs.declared.touching.SeenStrips.TheVariants.{Nothing}
use Rattle.mono_regions.specs.Indices.{cell_at, index_runs, has_index, owner_of, AreIndices}
use Rattle.mono_regions.specs.Seeing.{beyond, seen_with, is_one}
use Rattle.mono_regions.specs.Joining.{indices_of, touched_from, names, is_over, is_fitting, has_area_of}
use Rattle.mono_regions.proofs.Chains.{table_read}
use Rattle.mono_regions.proofs.Named.{held_is, held_not, position_of_named}
use Rattle.mono_regions.proofs.Owners.{owner_there}
use Rattle.mono_regions.proofs.RunLaws.{runs_indices, runs_are}
use Rattle.mono_regions.proofs.StripLaws.{owner_is, run_columns}
use Rattle.mono_regions.proofs.Scans.{any_where, any_same, all_same, seen_alone, no_other}

pub strip_count : (cells : List Cell) → length (strip_runs cells) ≡ length (index_runs cells)
strip_count cells = ap length (runs_are cells) ∙ length-map (index_runs cells) (map (cell_at cells))

-- the cells of a strip, by their indices
pub run_is : (cells : List Cell) (s : ℕ) → s < length (strip_runs cells) → run_of (strip_runs cells) s ≡ map (cell_at cells) (indices_of cells s)
run_is cells s there =
    ap (λ runs. get_or runs s []) (runs_are cells)
    ∙ get_or-map (map (cell_at cells)) (index_runs cells) s [] [] (omega (arith, there, strip_count cells))

pub strip_indices : (cells : List Cell) → IsCells cells → (s : ℕ) → s < length (strip_runs cells) → AreIndices cells (indices_of cells s)
strip_indices cells rules' s there = runs_indices cells rules' s [] (omega (arith, there, strip_count cells))

-- a cell stands in a strip exactly where that is its own
pub held_by : (cells : List Cell) → IsCut cells → (n t : ℕ) → n < length cells → t < length (index_runs cells)
    → has_index n (indices_of cells t) ≡ (owner_of cells n == t)
held_by cells cut n t inside there = same_test _ _
    (λ h.
    let w = any_where (λ j. j == n) (indices_of cells t) 0 h in
    eq-eqb (owner_of cells n) t (ap (owner_of cells) (sym (eqb-true (get_or (indices_of cells t) w.0 0) n w.2)) ∙ owner_is cells cut t there w.0 0 w.1))
    (λ h.
    let P : ℕ → Type 0 = λ s. has_index n (get_or (index_runs cells) s []) ≡ true in
    subst P (eqb-true (owner_of cells n) t h) (passes_at_first (has_index n) (index_runs cells) [] (owner_there cells cut n inside)))

-- a strip holds the cell that a cell names exactly where it is the one beyond
pub holds_is : (cells : List Cell) → IsCut cells → (dir i t : ℕ) → dir < 4 → t < length (strip_runs cells)
    → holds_named dir (cell_at cells i) (run_of (strip_runs cells) t) ≡ names t (beyond cells dir i)
holds_is cells cut dir i t small there =
    let n : ℕ = index_named cells (cell_at cells i) dir in
    let owners : List ℕ = map (owner_of cells) (range_with_len 0 (length cells)) in
    let many : length owners ≡ length cells = length-map-range_with_len (owner_of cells) 0 (length cells) in
    let each = (strip_indices cells cut.rules t there).each in
    ap (holds_named dir (cell_at cells i)) (run_is cells t there)
    ∙ elim (cases_lt n (length cells)) [
      | inl inside ↦
          held_is cells cut.rules i dir small inside (indices_of cells t) each
          ∙ held_by cells cut n t inside (omega (arith, there, strip_count cells))
          ∙ ap (names t) (sym (position_of_named cells cut i dir small ∙ slice_get-get_or owners n 0 (omega (arith, inside, many))
          ∙ ap (λ (s : ℕ). Some s) (get_or-map-range_with_len (owner_of cells) 0 (length cells) n n 0 inside (omega arith))))
      | inr past ↦
          held_not cells i dir past (indices_of cells t) each
          ∙ ap (names t) (sym (position_of_named cells cut i dir small ∙ slice_get_past owners n (omega (arith, past, many))))
    ]

-- the strips beyond the cells of a strip
abbrev pub beyond_all : List Cell → ℕ → ℕ → List (Option ℕ)
beyond_all cells dir s = map (beyond cells dir) (indices_of cells s)

pub touching_is : (cells : List Cell) → IsCut cells → (dir s t : ℕ) → dir < 4 → s < length (strip_runs cells) → t < length (strip_runs cells)
    → is_touching (strip_runs cells) dir s t ≡ list_any (names t) (beyond_all cells dir s)
touching_is cells cut dir s t small here there =
    let p : Cell → Bool = λ cell. holds_named dir cell (run_of (strip_runs cells) t) in
    ap (list_any p) (run_is cells s here)
    ∙ list_any-map p (cell_at cells) (indices_of cells s)
    ∙ any_same (λ i. p (cell_at cells i)) (λ i. names t (beyond cells dir i)) (indices_of cells s) (λ k d inside. holds_is cells cut dir (get_or (indices_of cells s) k d) t small there)
    ∙ sym (list_any-map (names t) (beyond cells dir) (indices_of cells s))

-- what lies beyond a cell is the number of a strip
pub beyond_small : (cells : List Cell) (dir i u : ℕ) → beyond cells dir i ≡ Some u → u < length (strip_runs cells)
beyond_small cells dir i u is = (position-Some (holds_named dir (cell_at cells i)) (strip_runs cells) u [] is).0

pub all_small : (cells : List Cell) (dir s k u : ℕ) → k < length (beyond_all cells dir s) → get_or (beyond_all cells dir s) k None ≡ Some u → u < length (strip_runs cells)
all_small cells dir s k u inside is =
    let there : k < length (indices_of cells s) = omega (arith, inside, length-map (indices_of cells s) (beyond cells dir)) in
    beyond_small cells dir (get_or (indices_of cells s) k 0) u (sym (get_or-map (beyond cells dir) (indices_of cells s) k 0 None there) ∙ is)

-- a strip touches another and no third exactly where the scan over its cells saw that one alone
pub only_is : (cells : List Cell) → IsCut cells → (dir s t : ℕ) → dir < 4 → s < length (strip_runs cells) → t < length (strip_runs cells)
    → touches_only (strip_runs cells) dir s t ≡ is_one t (touched_from cells dir s)
only_is cells cut dir s t small here there =
    let runs : List (List Cell) = strip_runs cells in
    let xs : List (Option ℕ) = beyond_all cells dir s in
    let first : is_touching runs dir s t ≡ list_any (names t) xs = touching_is cells cut dir s t small here there in
    let others : list_all (λ u. u == t || not (is_touching runs dir s u)) (numbers runs) ≡ list_all (λ u. u == t || not (list_any (names u) xs)) (numbers runs) =
    all_same (λ u. u == t || not (is_touching runs dir s u)) (λ u. u == t || not (list_any (names u) xs)) (numbers runs)
    (λ k d inside.
    let inside' : k < length runs = omega (arith, inside, length-range_with_len 0 (length runs)) in
    let u : ℕ = get_or (numbers runs) k d in
    ap (λ b. u == t || not b) (touching_is cells cut dir s u small here (omega (arith, inside', get_or-range_with_len 0 (length runs) k d inside')))) in
    ap (λ b. b && list_all (λ u. u == t || not (is_touching runs dir s u)) (numbers runs)) first
    ∙ ap (λ b. list_any (names t) xs && b) (others ∙ no_other (length runs) t xs (all_small cells dir s))
    ∙ sym (seen_alone t xs)
    ∙ ap (is_one t) (fold-map seen_with (beyond cells dir) Nothing (indices_of cells s))

-- the columns of a strip
column_is : (cells : List Cell) → IsCut cells → (t x : ℕ) → t < length (strip_runs cells)
    → has_column x (run_of (strip_runs cells) t) ≡ is_over cells x (indices_of cells t)
column_is cells cut t x there =
    let run : List ℕ = indices_of cells t in
    let x0 : ℕ = (cell_at cells (get_or run 0 0)).at.x in
    let p : ℕ → Bool = λ i. (cell_at cells i).at.x == x in
    let at = run_columns cells cut.rules t in
    let there' : t < length (index_runs cells) = omega (arith, there, strip_count cells) in
    ap (has_column x) (run_is cells t there)
    ∙ list_any-map (λ (cell : Cell). cell.at.x == x) (cell_at cells) run
    ∙ same_test _ _
    (λ h.
    let w = any_where p run 0 h in
    let column = (at w.0 0 there' w.1).x in
    let is : (cell_at cells (get_or run w.0 0)).at.x ≡ x = eqb-true _ _ w.2 in
    and_from _ _ (le-leb x0 x (omega (arith, column, is))) (le-leb (x + 1) (x0 + length run) (omega (arith, column, is, w.1))))
    (λ h.
    let parts = and_parts (nat_le x0 x) (nat_le (x + 1) (x0 + length run)) h in
    let least : x0 ≤ x = leb-true x0 x parts.0 in
    let most : x + 1 ≤ x0 + length run = leb-true (x + 1) (x0 + length run) parts.1 in
    let inside : x - x0 < length run = omega (arith, least, most) in
    list_any_at p run (x - x0) 0 inside (eq-eqb _ x (omega (arith, (at (x - x0) 0 there' inside).x, least))))

-- common columns are connected
connected_is : (cells : List Cell) → IsCut cells → (s t : ℕ) → s < length (strip_runs cells) → t < length (strip_runs cells)
    → are_connected (run_of (strip_runs cells) s) (run_of (strip_runs cells) t) ≡ list_all (is_fitting cells t (indices_of cells t)) (indices_of cells s)
connected_is cells cut s t here there =
    let upper : List Cell = run_of (strip_runs cells) t in
    let p : Cell → Bool = λ (cell : Cell). holds_named 1 cell upper || not (has_column cell.at.x upper) in
    ap (list_all p) (run_is cells s here)
    ∙ list_all-map p (cell_at cells) (indices_of cells s)
    ∙ all_same (λ i. p (cell_at cells i)) (is_fitting cells t (indices_of cells t)) (indices_of cells s)
    (λ k d inside.
    let i : ℕ = get_or (indices_of cells s) k d in
    ap (λ b. b || not (has_column (cell_at cells i).at.x upper)) (holds_is cells cut 1 i t (omega arith) there)
    ∙ ap (λ b. names t (beyond cells 1 i) || not b) (column_is cells cut t (cell_at cells i).at.x there))

-- the first cell of a strip
pub first_is : (cells : List Cell) → IsCells cells → (s : ℕ) → s < length (strip_runs cells)
    → first_of (run_of (strip_runs cells) s) ≡ cell_at cells (get_or (indices_of cells s) 0 0)
first_is cells rules' s there =
    ap first_of (run_is cells s there) ∙ get_or-map (cell_at cells) (indices_of cells s) 0 0 some_cell (strip_indices cells rules' s there).some

-- a strip joins another, as the code tests it
pub joins_is : (cells : List Cell) → IsCut cells → (s t : ℕ) → s < length (strip_runs cells) → t < length (strip_runs cells)
    → joins (strip_runs cells) s t
    ≡ (is_one t (touched_from cells 1 s) && is_one s (touched_from cells 3 t)
    && list_all (is_fitting cells t (indices_of cells t)) (indices_of cells s)
    && has_area_of cells (indices_of cells t) (indices_of cells s))
unfolding joins
joins_is cells cut s t here there =
    four (only_is cells cut 1 s t (omega arith) here there) (only_is cells cut 3 t s (omega arith) there here) (connected_is cells cut s t here there)
    (ap (λ (cell : Cell). cell.area == (first_of (run_of (strip_runs cells) t)).area) (first_is cells cut.rules s here)
    ∙ ap (λ (cell : Cell). (cell_at cells (get_or (indices_of cells s) 0 0)).area == cell.area) (first_is cells cut.rules t there))
  where
    four : {a b c d a' b' c' d' : Bool} → a ≡ a' → b ≡ b' → c ≡ c' → d ≡ d' → (a && b && c && d) ≡ (a' && b' && c' && d')
    four first second third fourth = cc

-- so its cells are connected wherever the other lies over them
pub joins_fitting : (cells : List Cell) → IsCut cells → (s t : ℕ) → s < length (strip_runs cells) → t < length (strip_runs cells)
    → joins (strip_runs cells) s t ≡ true → list_all (is_fitting cells t (indices_of cells t)) (indices_of cells s) ≡ true
joins_fitting cells cut s t here there h =
    third (is_one t (touched_from cells 1 s)) (is_one s (touched_from cells 3 t)) (list_all (is_fitting cells t (indices_of cells t)) (indices_of cells s))
    (has_area_of cells (indices_of cells t) (indices_of cells s)) (sym (joins_is cells cut s t here there) ∙ h)
  where
    third : (a b c d : Bool) → (a && b && c && d) ≡ true → c ≡ true
    third a b c d h = (and_parts (a && b) c (and_parts (a && b && c) d h).0).1

-- and where it was seen to touch that one alone
pub joins_where : (cells : List Cell) → IsCut cells → (s t : ℕ) → s < length (strip_runs cells) → t < length (strip_runs cells)
    → is_one t (touched_from cells 1 s) ≡ true
    → joins (strip_runs cells) s t
    ≡ (is_one s (touched_from cells 3 t) && (list_all (is_fitting cells t (indices_of cells t)) (indices_of cells s)
    && has_area_of cells (indices_of cells t) (indices_of cells s)))
joins_where cells cut s t here there seen =
    joins_is cells cut s t here there
    ∙ grouped _ _ _ _ seen
  where
    grouped : (a b c d : Bool) → a ≡ true → (a && b && c && d) ≡ (b && (c && d))
    grouped true true c d h = refl
    grouped true false c d h = refl
    grouped false b c d h = absurd (both_ways false refl h)

-- what the code finds beyond a cell
row_four : (cells : List Cell) (i : ℕ) → i < length cells → length (get_or (neighbour_table cells) i []) ≡ 4
unfolding neighbour_table
row_four cells i there = ap length (get_or-map (indices_named cells) cells i some_cell [] there)

pub beyond_read : (cells : List Cell) → IsCut cells → (table : List (List ℕ)) (owners : List ℕ) (dir i : ℕ) → table ≡ neighbour_table cells
    → owners ≡ map (owner_of cells) (range_with_len 0 (length cells)) → i < length cells → dir < 4
    → slice_get owners (get_or (get_or table i []) dir 0) ≡ beyond cells dir i
beyond_read cells cut table owners dir i is owned there small =
    ap (λ (os : List ℕ). slice_get os (get_or (get_or table i []) dir 0)) owned
    ∙ ap (slice_get (map (owner_of cells) (range_with_len 0 (length cells))))
    (table_read cells table i dir is there small (ap (λ t. length (get_or t i [])) is ∙ row_four cells i there))
    ∙ sym (position_of_named cells cut i dir small)
