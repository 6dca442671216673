-- A strip that another joins lies upon it.
use Rattle.std.proofs.Common.{◌≡◌, ℕ, ◌+◌, ◌-◌, ◌<◌, true, length, List, map, get_or, ap, ◌∙◌, sym, subst, arith, inl, inr}
use Rattle.std.specs.List.{list_any}
use Rattle.std.proofs.lemmas.Bool.{cases_order, eqb-true, and_parts}
use Rattle.std.proofs.lemmas.List.{length-map}
use Rattle.nav_ground.specs.declared.cell.Cell.{Cell}
use Rattle.nav_ground.specs.declared.cell.CellRef.{CellRef}
use Rattle.nav_ground.specs.Cells.{IsCellBefore, IsCells, IsCut, is_naming}
use Rattle.nav_ground.proofs.Directions.{both_equal}
use Rattle.nav_ground.proofs.Selections.{list_any-map}
use Rattle.mesh_types.specs.declared.region.Strip.{Strip}
use Rattle.mesh_types.specs.Strips.{strip_of}
use Rattle.mesh_types.specs.StripPolygons.{some_cell, strip_runs, first_of}
use Rattle.mesh_types.specs.Regions.{run_of, is_touching, joins, IsUpon, IsStrip}
use Rattle.mono_regions.specs.Indices.{cell_at, level_at, firsts_below, strip_at}
use Rattle.mono_regions.specs.Seeing.{beyond}
use Rattle.mono_regions.specs.Joining.{indices_of, names}
use Rattle.mono_regions.proofs.Owners.{run_count, firsts_small}
use Rattle.mono_regions.proofs.RunLaws.{map-map, run_first}
use Rattle.mono_regions.proofs.StripLaws.{firsts_rise, run_with_number, run_columns}
use Rattle.mono_regions.proofs.Scans.{any_where}
use Rattle.mono_regions.proofs.Touches.{strip_count, run_is, strip_indices, first_is, touching_is, holds_is, joins_is}

-- two places are one where their parts are
pub same_place : (a b : CellRef) → a.x ≡ b.x → a.z ≡ b.z → a.level ≡ b.level → a ≡ b
same_place a b x z level = ap (λ n. place n a.z a.level) x ∙ ap (λ n. place b.x n a.level) z ∙ ap (place b.x b.z) level
  where
    place : ℕ → ℕ → ℕ → CellRef
    place x z level = record { x = x; z = z; level = level }

-- the strip with a number
abbrev pub strip_number : List Cell → ℕ → Strip
strip_number cells s = strip_of (first_of (run_of (strip_runs cells) s)) (run_of (strip_runs cells) s)

-- as it is made from the indices of its cells
pub strip_made : (cells : List Cell) → IsCells cells → (s : ℕ) → s < length (strip_runs cells) → strip_at cells (indices_of cells s) ≡ strip_number cells s
strip_made cells rules' s there =
    let run : List ℕ = indices_of cells s in
    let is = run_is cells s there in
    ap (λ (first : Cell). strip_from first (length run) (map (level_at cells) run)) (sym (first_is cells rules' s there))
    ∙ ap (λ n. strip_from (first_of (run_of (strip_runs cells) s)) n (map (level_at cells) run)) (sym (ap length is ∙ length-map run (cell_at cells)))
    ∙ ap (strip_from (first_of (run_of (strip_runs cells) s)) (length (run_of (strip_runs cells) s)))
    (sym (ap (map (λ (cell : Cell). cell.at.level)) is ∙ map-map (λ (cell : Cell). cell.at.level) (cell_at cells) run))
  where
    strip_from : Cell → ℕ → List ℕ → Strip
    strip_from first n levels = record { z = first.at.z; x0 = first.at.x; x1 = first.at.x + n - 1; levels = levels; area = first.area }

-- a cell of a strip lies under one of another
pub record IsUnder (cells : List Cell) (s t : ℕ) : Type 0 where
  pub k : ℕ
  pub l : ℕ
  pub inside : k < length (indices_of cells s)
  pub inside' : l < length (indices_of cells t)
  pub x : (cell_at cells (get_or (indices_of cells t) l 0)).at.x ≡ (cell_at cells (get_or (indices_of cells s) k 0)).at.x
  pub z : (cell_at cells (get_or (indices_of cells t) l 0)).at.z ≡ (cell_at cells (get_or (indices_of cells s) k 0)).at.z + 1

joins_touching : (runs : List (List Cell)) (s t : ℕ) → joins runs s t ≡ true → is_touching runs 1 s t ≡ true
unfolding joins
joins_touching runs s t h = (and_parts _ _ (and_parts _ _ (and_parts _ _ (and_parts _ _ h).0).0).0).0

under : (cells : List Cell) → IsCut cells → (s t : ℕ) → s < length (strip_runs cells) → t < length (strip_runs cells)
    → joins (strip_runs cells) s t ≡ true → IsUnder cells s t
under cells cut s t here there h =
    let w = any_where (λ i. names t (beyond cells 1 i)) (indices_of cells s) 0
    (sym (list_any-map (names t) (beyond cells 1) (indices_of cells s)) ∙ sym (touching_is cells cut 1 s t (omega arith) here there)
    ∙ joins_touching (strip_runs cells) s t h) in
    let i : ℕ = get_or (indices_of cells s) w.0 0 in
    let p : Cell → _ = λ (to : Cell). is_naming 1 (cell_at cells i) to.at in
    let held : list_any p (map (cell_at cells) (indices_of cells t)) ≡ true =
    ap (list_any p) (sym (run_is cells t there)) ∙ holds_is cells cut 1 i t (omega arith) there ∙ w.2 in
    let w' = any_where (λ j. p (cell_at cells j)) (indices_of cells t) 0 (sym (list_any-map p (cell_at cells) (indices_of cells t)) ∙ held) in
    let e = both_equal _ _ _ _ (and_parts _ _ w'.2).0 in
    record { k = w.0; l = w'.0; inside = w.1; inside' = w'.1; x = e.0; z = e.1 }

-- where the first cells of both lie
abbrev pub first_cell : List Cell → ℕ → Cell
first_cell cells s = cell_at cells (get_or (indices_of cells s) 0 0)

pub row_above : (cells : List Cell) → IsCut cells → (s t : ℕ) → s < length (strip_runs cells) → t < length (strip_runs cells)
    → joins (strip_runs cells) s t ≡ true → (first_cell cells t).at.z ≡ (first_cell cells s).at.z + 1
row_above cells cut s t here there h =
    let u = under cells cut s t here there h in
    let lower = run_columns cells cut.rules s u.k 0 (omega (arith, here, strip_count cells)) u.inside in
    let upper = run_columns cells cut.rules t u.l 0 (omega (arith, there, strip_count cells)) u.inside' in
    sym upper.z ∙ u.z ∙ ap (λ n. n + 1) lower.z

-- the one lies upon the other
pub upon : (cells : List Cell) → IsCut cells → (s t : ℕ) → s < length (strip_runs cells) → t < length (strip_runs cells)
    → joins (strip_runs cells) s t ≡ true → IsUpon (strip_number cells s) (strip_number cells t)
upon cells cut s t here there h =
    let u = under cells cut s t here there h in
    let lower = run_columns cells cut.rules s u.k 0 (omega (arith, here, strip_count cells)) u.inside in
    let upper = run_columns cells cut.rules t u.l 0 (omega (arith, there, strip_count cells)) u.inside' in
    let same = eqb-true _ _ (and_parts _ _ (sym (joins_is cells cut s t here there) ∙ h)).1 in
    let made : IsUpon (strip_at cells (indices_of cells s)) (strip_at cells (indices_of cells t)) = record {
      row = row_above cells cut s t here there h;
      left = omega (arith, u.x, lower.x, upper.x, u.inside, u.inside');
      right = omega (arith, u.x, lower.x, upper.x, u.inside, u.inside');
      area = sym same;
    } in
    subst (λ (a : Strip). IsUpon a (strip_number cells t)) (strip_made cells cut.rules s here)
    (subst (IsUpon (strip_at cells (indices_of cells s))) (strip_made cells cut.rules t there) made)

-- and comes after it
first_index : (cells : List Cell) (s : ℕ) → s < length (strip_runs cells) → get_or (indices_of cells s) 0 0 ≡ get_or (firsts_below cells (length cells)) s 0
first_index cells s there =
    ap (λ (run : List ℕ). get_or run 0 0) (run_with_number cells s (omega (arith, there, strip_count cells)))
    ∙ run_first cells (get_or (firsts_below cells (length cells)) s 0) 0

pub after : (cells : List Cell) → IsCut cells → (s t : ℕ) → s < length (strip_runs cells) → t < length (strip_runs cells)
    → joins (strip_runs cells) s t ≡ true → s < t
after cells cut s t here there h =
    let row = row_above cells cut s t here there h in
    let firsts : List ℕ = firsts_below cells (length cells) in
    let many : length firsts ≡ length (strip_runs cells) = sym (run_count cells) ∙ sym (strip_count cells) in
    let own = first_index cells s here in
    let other = first_index cells t there in
    elim (cases_order s t) [
      | inl same ↦ absurd (omega (arith, row, ap (λ n. (first_cell cells n).at.z) same))
      | inr (inl less) ↦ less
      | inr (inr more) ↦
          let rise : get_or firsts t 0 < get_or firsts s 0 = firsts_rise cells (length cells) t s 0 more (omega (arith, here, many)) in
          let small : get_or firsts s 0 < length cells = firsts_small cells (length cells) s 0 (omega (arith, here, many)) in
          let before : IsCellBefore (first_cell cells t).at (first_cell cells s).at =
          cut.rules.order (get_or (indices_of cells t) 0 0) (get_or (indices_of cells s) 0 0) some_cell (omega (arith, rise, own, other)) (omega (arith, small, own)) in
          absurd (apart (first_cell cells t).at (first_cell cells s).at row before)
    ]
  where
    apart : (a b : CellRef) → a.z ≡ b.z + 1 → IsCellBefore a b → ⊥
    apart a b row (inl below) = omega (arith, below, row)
    apart a b row (inr (same, rest)) = omega (arith, same, row)

-- a strip has a level for each of its columns
pub strip_whole : (cells : List Cell) → IsCells cells → (s : ℕ) → s < length (strip_runs cells) → IsStrip (strip_number cells s)
strip_whole cells rules' s there =
    let some = (strip_indices cells rules' s there).some in
    let many = length-map (indices_of cells s) (level_at cells) in
    let made : IsStrip (strip_at cells (indices_of cells s)) = record { some = omega (arith, some); levels = omega (arith, some, many) } in
    subst IsStrip (strip_made cells rules' s there) made
