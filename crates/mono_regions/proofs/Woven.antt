-- The cells of a region are connected wherever their columns are neighbours.
use Rattle.std.proofs.Common.{◌≡◌, ℕ, ◌+◌, ◌-◌, ◌<◌, ◌≤◌, true, length, List, map, get_or, ap, ◌∙◌, sym, subst, arith, zero, suc, inl, inr}
use Rattle.std.specs.Prelude.{All}
use Rattle.std.specs.List.{Contains, list_any, list_all}
use Rattle.std.proofs.lemmas.Bool.{and_parts, and_from, both_ways, le-leb, or_cases, not_from_true}
use Rattle.std.proofs.lemmas.List.{length-map, get_or-map, get_or_default}
use Rattle.std.proofs.lemmas.List.Elements.{Contains-get_or, All-map}
use Rattle.std.proofs.lemmas.List.Sums.{AllPass-from_list_all}
use Rattle.nav_ground.specs.declared.cell.Cell.{Cell}
use Rattle.nav_ground.specs.declared.cell.CellRef.{CellRef}
use Rattle.nav_ground.specs.Cells.{IsCells, IsCut, is_naming, is_toward, opposite}
use Rattle.nav_ground.proofs.Directions.{both_equal}
use Rattle.nav_ground.proofs.Selections.{list_any-map}
use Rattle.cell_table.proofs.Tables.{one_index}
use Rattle.mesh_types.specs.declared.region.Strip.{Strip}
use Rattle.mesh_types.specs.declared.region.Region.{Region}
use Rattle.mesh_types.specs.StripPolygons.{some_cell, strip_runs}
use Rattle.mesh_types.specs.Regions.{joins, regions_of, place_in, IsIn, IsWoven}
use Rattle.mono_regions.specs.Indices.{cell_at, level_at, strip_at}
use Rattle.mono_regions.specs.Seeing.{beyond}
use Rattle.mono_regions.specs.Joining.{indices_of, names, is_over, is_fitting}
use Rattle.mono_regions.proofs.Chains.{along_is}
use Rattle.mono_regions.proofs.StripLaws.{run_columns, run_next}
use Rattle.mono_regions.proofs.Scans.{any_where}
use Rattle.mono_regions.proofs.Touches.{strip_count, run_is, strip_indices, holds_is, joins_fitting}
use Rattle.mono_regions.proofs.JoinLaws.{joined_back}
use Rattle.mono_regions.proofs.Upon.{same_place, strip_number, strip_made, first_cell, row_above}
use Rattle.mono_regions.proofs.Following.{chain_at}
use Rattle.mono_regions.proofs.Gathered.{begins_below, region_at, regions_are}
use Rattle.mono_regions.proofs.Stacks.{chain_small, chain_next, begins_small}

-- the index of the cell of a strip in a column
abbrev index_in : List Cell → ℕ → ℕ → ℕ
index_in cells s x = get_or (indices_of cells s) (x - (first_cell cells s).at.x) 0

-- where it stands
record IsPlaced (cells : List Cell) (s x : ℕ) : Type 0 where
  least : (first_cell cells s).at.x ≤ x
  inside : x - (first_cell cells s).at.x < length (indices_of cells s)
  there : index_in cells s x < length cells
  at : (cell_at cells (index_in cells s x)).at ≡ place_in (strip_number cells s) x

placed : (cells : List Cell) → IsCells cells → (s x : ℕ) → s < length (strip_runs cells) → IsIn (strip_number cells s) x → IsPlaced cells s x
placed cells rules' s x small column =
    let run : List ℕ = indices_of cells s in
    let made = strip_made cells rules' s small in
    let P : Strip → Type 0 = λ (strip : Strip). IsIn strip x in
    let column' : IsIn (strip_at cells run) x = subst P (sym made) column in
    let indices = strip_indices cells rules' s small in
    let k : ℕ = x - (first_cell cells s).at.x in
    let inside : k < length run = omega (arith, column'.0, column'.1, indices.some) in
    let spot = run_columns cells rules' s k 0 (omega (arith, small, strip_count cells)) inside in
    record {
      least = column'.0;
      inside = inside;
      there = indices.each k 0 inside;
      at = same_place (cell_at cells (get_or run k 0)).at (place_in (strip_at cells run) x) (omega (arith, spot.x, column'.0)) spot.z
          (sym (get_or-map (level_at cells) run k 0 0 inside))
          ∙ ap (λ (strip : Strip). place_in strip x) made;
    }

-- along a strip
row_named : (cells : List Cell) → IsCut cells → (s x y : ℕ) → s < length (strip_runs cells) → IsPlaced cells s x → IsPlaced cells s y → y ≡ x + 1
    → is_naming 2 (cell_at cells (index_in cells s x)) (cell_at cells (index_in cells s y)).at ≡ true
row_named cells cut s x y small here there next =
    let k : ℕ = x - (first_cell cells s).at.x in
    let is : y - (first_cell cells s).at.x ≡ suc k = omega (arith, next, here.least) in
    let step = run_next cells s k 0 (omega (arith, small, strip_count cells)) (omega (arith, there.inside, is)) in
    let named = (along_is cells 2 (get_or (indices_of cells s) k 0) step.1).0 in
    let P : ℕ → Type 0 = λ j. is_naming 2 (cell_at cells (get_or (indices_of cells s) k 0)) (cell_at cells j).at ≡ true in
    subst P (sym step.0 ∙ ap (λ n. get_or (indices_of cells s) n 0) (sym is)) named

-- from a strip to the one that it joins
column_named : (cells : List Cell) → IsCut cells → (s t x : ℕ) → s < length (strip_runs cells) → t < length (strip_runs cells)
    → joins (strip_runs cells) s t ≡ true → IsPlaced cells s x → IsPlaced cells t x
    → is_naming 1 (cell_at cells (index_in cells s x)) (cell_at cells (index_in cells t x)).at ≡ true
column_named cells cut s t x here there joined own other =
    let run : List ℕ = indices_of cells s in
    let over : List ℕ = indices_of cells t in
    let k : ℕ = x - (first_cell cells s).at.x in
    let i : ℕ = get_or run k 0 in
    let p : Cell → _ = λ (to : Cell). is_naming 1 (cell_at cells i) to.at in
    let all : list_all (is_fitting cells t over) run ≡ true = joins_fitting cells cut s t here there joined in
    let fits : is_fitting cells t over i ≡ true = AllPass-from_list_all (is_fitting cells t over) run all k 0 own.inside in
    let spot = run_columns cells cut.rules s k 0 (omega (arith, here, strip_count cells)) own.inside in
    let column : (cell_at cells i).at.x ≡ x = omega (arith, spot.x, own.least) in
    let lies : is_over cells (cell_at cells i).at.x over ≡ true =
    ap (λ n. is_over cells n over) column
    ∙ and_from _ _ (le-leb (first_cell cells t).at.x x other.least)
    (le-leb (x + 1) ((first_cell cells t).at.x + length over) (omega (arith, other.least, other.inside))) in
    let beyond_is : names t (beyond cells 1 i) ≡ true = elim (or_cases _ _ fits) [
      | inl named ↦ named
      | inr apart ↦ absurd (both_ways _ (not_from_true _ lies) apart)
    ] in
    let held : list_any p (map (cell_at cells) over) ≡ true =
    ap (list_any p) (sym (run_is cells t there)) ∙ holds_is cells cut 1 i t (omega arith) there ∙ beyond_is in
    let w = any_where (λ j. p (cell_at cells j)) over 0 (sym (list_any-map p (cell_at cells) over) ∙ held) in
    let aligned = names_column i (get_or over w.0 0) w.2 in
    let spot' = run_columns cells cut.rules t w.0 0 (omega (arith, there, strip_count cells)) w.1 in
    let place : w.0 ≡ x - (first_cell cells t).at.x = omega (arith, aligned, column, spot'.x) in
    let P : ℕ → Type 0 = λ j. p (cell_at cells (get_or over j 0)) ≡ true in
    subst P {x = w.0} {y = x - (first_cell cells t).at.x} place w.2
  where
    names_column : (i j : ℕ) → is_naming 1 (cell_at cells i) (cell_at cells j).at ≡ true → (cell_at cells j).at.x ≡ (cell_at cells i).at.x
    names_column i j named = (both_equal _ _ _ _ (and_parts _ _ named).0).0

-- the rows of a chain follow one another
chain_rows : (cells : List Cell) → IsCut cells → (f k : ℕ) → f < length (strip_runs cells) → k < length (chain_at cells f)
    → (strip_number cells (get_or (chain_at cells f) k 0)).z ≡ (strip_number cells (get_or (chain_at cells f) 0 0)).z + k
chain_rows cells cut f zero small inside = omega arith
chain_rows cells cut f (suc k) small inside =
    let chain : List ℕ = chain_at cells f in
    let joined = joined_back cells (get_or chain k 0) (get_or chain (suc k) 0) (chain_next cells (length (strip_runs cells)) f k 0 (omega (arith, inside))) in
    let here = chain_small cells (length (strip_runs cells)) f small k 0 (omega (arith, inside)) in
    let above = row_above cells cut (get_or chain k 0) (get_or chain (suc k) 0) here joined.0 joined.1 in
    let lower = ap (λ (strip : Strip). strip.z) (strip_made cells cut.rules (get_or chain k 0) here) in
    let upper = ap (λ (strip : Strip). strip.z) (strip_made cells cut.rules (get_or chain (suc k) 0) joined.0) in
    omega (arith, above, lower, upper, chain_rows cells cut f k small (omega (arith, inside)))

-- the strips of a region by their places in its chain
member : (cells : List Cell) (f : ℕ) (strip : Strip) → Contains (region_at cells f).strips strip
    → (k : ℕ) × (k < length (chain_at cells f)) × (strip_number cells (get_or (chain_at cells f) k 0) ≡ strip)
member cells f strip held =
    let inside : held.0 < length (chain_at cells f) = omega (arith, held.1, length-map (chain_at cells f) (strip_number cells)) in
    (held.0, inside, sym (get_or-map (strip_number cells) (chain_at cells f) held.0 0 strip inside) ∙ held.2)

module _ (cells : List Cell) (cut : IsCut cells) (f : ℕ) (small : f < length (strip_runs cells)) where
  abbrev nth : ℕ → ℕ
  nth k = get_or (chain_at cells f) k 0

  nth_small : (k : ℕ) → k < length (chain_at cells f) → nth k < length (strip_runs cells)
  nth_small k inside = chain_small cells (length (strip_runs cells)) f small k 0 inside

  -- the cell of the strip at a place of the chain in a column
  abbrev cell_on : ℕ → ℕ → Cell
  cell_on k x = cell_at cells (index_in cells (nth k) x)

  row_pair : (k l x y : ℕ) → k < length (chain_at cells f) → l ≡ k → y ≡ x + 1 → IsPlaced cells (nth k) x → IsPlaced cells (nth l) y
      → is_naming 2 (cell_on k x) (cell_on l y).at ≡ true
  row_pair k l x y inside same next own =
      let P : ℕ → Type 0 = λ m. IsPlaced cells (nth m) y → is_naming 2 (cell_on k x) (cell_on m y).at ≡ true in
      subst P (sym same) (λ other. row_named cells cut (nth k) x y (nth_small k inside) own other next)

  column_pair : (k l x y : ℕ) → l < length (chain_at cells f) → l ≡ suc k → y ≡ x → IsPlaced cells (nth k) x → IsPlaced cells (nth l) y
      → is_naming 1 (cell_on k x) (cell_on l y).at ≡ true
  column_pair k l x y inside next same own =
      let inside' : k + 1 < length (chain_at cells f) = omega (arith, inside, next) in
      let joined = joined_back cells (nth k) (nth (suc k)) (chain_next cells (length (strip_runs cells)) f k 0 inside') in
      let P : ℕ → Type 0 = λ m. IsPlaced cells (nth m) y → is_naming 1 (cell_on k x) (cell_on m y).at ≡ true in
      let Q : ℕ → Type 0 = λ n. IsPlaced cells (nth (suc k)) n → is_naming 1 (cell_on k x) (cell_on (suc k) n).at ≡ true in
      subst P (sym next) (subst Q (sym same) (λ other. column_named cells cut (nth k) (nth (suc k)) x (nth_small k (omega (arith, inside'))) joined.0 joined.1 own other))

  back : (dir i j : ℕ) → dir < 4 → i < length cells → j < length cells → is_naming dir (cell_at cells i) (cell_at cells j).at ≡ true
      → is_naming (opposite dir) (cell_at cells j) (cell_at cells i).at ≡ true
  back dir i j few here there named =
      cut.named_back dir (cell_at cells i) (cell_at cells j) few (Contains-get_or cells i some_cell here) (Contains-get_or cells j some_cell there) named

  pair_named : (dir k l x y : ℕ) → dir < 4 → k < length (chain_at cells f) → l < length (chain_at cells f) → IsPlaced cells (nth k) x → IsPlaced cells (nth l) y
      → is_toward dir (place_in (strip_number cells (nth k)) x) (place_in (strip_number cells (nth l)) y) ≡ true
      → is_naming dir (cell_on k x) (cell_on l y).at ≡ true
  pair_named zero k l x y few inside inside' own other toward =
      let e = both_equal _ _ _ _ toward in
      let rows = chain_rows cells cut f k small inside in
      let rows' = chain_rows cells cut f l small inside' in
      back 2 (index_in cells (nth l) y) (index_in cells (nth k) x) (omega arith) other.there own.there
      (row_pair l k y x inside' (omega (arith, e.1, rows, rows')) (sym e.0) other own)
  pair_named (suc zero) k l x y few inside inside' own other toward =
      let e = both_equal _ _ _ _ toward in
      let rows = chain_rows cells cut f k small inside in
      let rows' = chain_rows cells cut f l small inside' in
      column_pair k l x y inside' (omega (arith, e.1, rows, rows')) e.0 own other
  pair_named (suc (suc zero)) k l x y few inside inside' own other toward =
      let e = both_equal _ _ _ _ toward in
      let rows = chain_rows cells cut f k small inside in
      let rows' = chain_rows cells cut f l small inside' in
      row_pair k l x y inside (omega (arith, e.1, rows, rows')) e.0 own other
  pair_named (suc (suc (suc zero))) k l x y few inside inside' own other toward =
      let e = both_equal _ _ _ _ toward in
      let rows = chain_rows cells cut f k small inside in
      let rows' = chain_rows cells cut f l small inside' in
      back 1 (index_in cells (nth l) y) (index_in cells (nth k) x) (omega arith) other.there own.there
      (column_pair l k y x inside (omega (arith, e.1, rows, rows')) (sym e.0) other own)
  pair_named (suc (suc (suc (suc dir)))) k l x y few inside inside' own other toward = absurd (omega (arith, few))

  -- where the cell of a strip of the region stands
  held_placed : (strip : Strip) (x : ℕ) (held : Contains (region_at cells f).strips strip) → IsIn strip x → IsPlaced cells (nth (member cells f strip held).0) x
  held_placed strip x held column =
      let m = member cells f strip held in
      placed cells cut.rules (nth m.0) x (nth_small m.0 m.1) (subst (λ (s : Strip). IsIn s x) (sym m.2) column)

  held_at : (strip : Strip) (x : ℕ) (held : Contains (region_at cells f).strips strip) → IsIn strip x
      → (cell_on (member cells f strip held).0 x).at ≡ place_in strip x
  held_at strip x held column =
      (held_placed strip x held column).at ∙ ap (λ (s : Strip). place_in s x) (member cells f strip held).2

  -- a cell at a place is the one at its index
  cell_is : (cell : Cell) (i : ℕ) → i < length cells → Contains cells cell → cell.at ≡ (cell_at cells i).at → cell ≡ cell_at cells i
  cell_is cell i here held same =
      let is : cell ≡ cell_at cells held.0 = sym held.2 ∙ get_or_default cells held.0 cell some_cell held.1 in
      is ∙ ap (cell_at cells) (one_index cells cut.rules held.0 i some_cell held.1 here (ap (λ (c : Cell). c.at) (sym is) ∙ same))

  region_woven : IsWoven cells (region_at cells f)
  region_woven = record {
    there = λ strip x held column.
        let own = held_placed strip x held column in
        let i : ℕ = index_in cells (nth (member cells f strip held).0) x in
        (i, cell_at cells i, own.there, get_or_default cells i (cell_at cells i) some_cell own.there, held_at strip x held column);
    connected = λ dir x y from to cell few held held' column column' toward contained is.
        let own = held_placed from x held column in
        let other = held_placed to y held' column' in
        let m = member cells f from held in
        let m' = member cells f to held' in
        let P : Strip → Type 0 = λ (s : Strip). is_toward dir (place_in s x) (place_in to y) ≡ true in
        let Q : Strip → Type 0 = λ (t : Strip). is_toward dir (place_in (strip_number cells (nth m.0)) x) (place_in t y) ≡ true in
        let named = pair_named dir m.0 m'.0 x y few m.1 m'.1 own other (subst Q (sym m'.2) (subst P (sym m.2) toward)) in
        let R : CellRef → Type 0 = λ (at : CellRef). is_naming dir cell at ≡ true in
        let S : Cell → Type 0 = λ (c : Cell). is_naming dir c (cell_on m'.0 y).at ≡ true in
        subst R (held_at to y held' column')
        (subst S (sym (cell_is cell (index_in cells (nth m.0) x) own.there contained (is ∙ sym (held_at from x held column)))) named);
  }

pub are_woven : (cells : List Cell) → IsCut cells → All (IsWoven cells) (regions_of cells).regions
are_woven cells cut =
    let starts : List ℕ = begins_below cells (length (strip_runs cells)) in
    let P : List Region → Type 0 = λ regions. All (IsWoven cells) regions in
    subst P (sym (regions_are cells)) (All-map (IsWoven cells) (region_at cells) starts (λ k d inside. region_woven cells cut (get_or starts k d) (begins_small cells k d inside)))
