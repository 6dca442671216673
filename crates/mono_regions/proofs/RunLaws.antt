-- Strips by the indices of their cells are the strips of the cells.
use Rattle.std.proofs.Common.{◌≡◌, ℕ, ◌+◌, ◌-◌, ◌<◌, ◌≤◌, Bool, true, false, length, List, [], ◌∷◌, map, filter, get_or, ap, ◌∙◌, sym, refl, arith, zero, suc}
use Rattle.std.specs.Prelude.{nat_lt, All, if◌then◌else◌}
use Rattle.std.specs.List.{range_with_len}
use Rattle.std.proofs.lemmas.List.{length-map}
use Rattle.std.proofs.lemmas.List.Elements.{All-map}
use Rattle.std.proofs.lemmas.List.FromFn.{fill_by_all}
use Rattle.nav_ground.specs.declared.cell.Cell.{Cell}
use Rattle.nav_ground.specs.Cells.{IsCells}
use Rattle.nav_ground.proofs.Selections.{filter-map}
use Rattle.mesh_types.specs.declared.region.Strip.{Strip}
use Rattle.mesh_types.specs.Strips.{strip_of, strip_cells, strip_firsts, strips_of, begins_strip}
use Rattle.mesh_types.specs.StripPolygons.{some_cell, strip_runs}
use Rattle.mono_regions.specs.Indices.{cell_at, along, indices_from, run_at, firsts_below, index_runs, AreIndices, level_at, strip_at}
use Rattle.mono_regions.proofs.Walks.{along_run, cells_of_run}
use Rattle.mono_regions.proofs.Owners.{firsts_small}

pub map-map : {A B C : Type 0} (g : B → C) (f : A → B) (xs : List A) → map g (map f xs) ≡ map (λ x. g (f x)) xs
map-map g f [] = refl
map-map g f (x ∷ xs) = let rest = map-map g f xs in cc

-- a walk begins at its cell, and has a cell for each step
walk_first : (cells : List Cell) (n i d : ℕ) → get_or (indices_from cells n i) 0 d ≡ i
unfolding indices_from
walk_first cells zero i d = refl
walk_first cells (suc n) i d = refl

walk_some : (cells : List Cell) (n i : ℕ) → 0 < length (indices_from cells n i)
unfolding indices_from
walk_some cells zero i = omega arith
walk_some cells (suc n) i = omega arith

walk_few : (cells : List Cell) (n i : ℕ) → length (indices_from cells n i) ≤ n + 1
unfolding indices_from
walk_few cells zero i = omega arith
walk_few cells (suc n) i =
    let rest : length (if nat_lt (along cells 2 i) (length cells) then indices_from cells n (along cells 2 i) else []) ≤ n + 1
    = by_case (nat_lt (along cells 2 i) (length cells)) (walk_few cells n (along cells 2 i)) in
    omega (arith, rest)
  where
    by_case : (b : Bool) → length (indices_from cells n (along cells 2 i)) ≤ n + 1
        → length (if b then indices_from cells n (along cells 2 i) else []) ≤ n + 1
    by_case true few = few
    by_case false few = omega arith

pub run_first : (cells : List Cell) (i d : ℕ) → get_or (run_at cells i) 0 d ≡ i
run_first cells i d = walk_first cells (length cells) i d

pub run_indices : (cells : List Cell) → IsCells cells → (i : ℕ) → i < length cells → AreIndices cells (run_at cells i)
run_indices cells rules' i there = record {
  some = walk_some cells (length cells) i;
  few = omega (arith, walk_few cells (length cells) i, rules'.few);
  each = along_run cells rules' (λ k. k < length cells) (λ k here next _. next) (length cells) i there there;
}

pub runs_indices : (cells : List Cell) → IsCells cells → All (AreIndices cells) (index_runs cells)
unfolding index_runs
runs_indices cells rules' =
    All-map (AreIndices cells) (run_at cells) (firsts_below cells (length cells))
    (λ k d there. run_indices cells rules' (get_or (firsts_below cells (length cells)) k d) (firsts_small cells (length cells) k d there))

-- the first cells of strips
firsts_are : (cells : List Cell) → strip_firsts cells ≡ map (cell_at cells) (firsts_below cells (length cells))
firsts_are cells =
    ap (filter (begins_strip cells)) (fill_by_all (cell_at cells) cells (length cells) some_cell refl (λ k there. refl))
    ∙ filter-map (begins_strip cells) (cell_at cells) (range_with_len 0 (length cells))

pub runs_are : (cells : List Cell) → strip_runs cells ≡ map (map (cell_at cells)) (index_runs cells)
unfolding index_runs
runs_are cells =
    ap (map (strip_cells cells)) (firsts_are cells)
    ∙ map-map (strip_cells cells) (cell_at cells) (firsts_below cells (length cells))
    ∙ same_map (firsts_below cells (length cells))
    ∙ sym (map-map (map (cell_at cells)) (run_at cells) (firsts_below cells (length cells)))
  where
    same_map : (fs : List ℕ) → map (λ f. strip_cells cells (cell_at cells f)) fs ≡ map (λ f. map (cell_at cells) (run_at cells f)) fs
    same_map [] = refl
    same_map (f ∷ fs) =
        ap (λ c. c ∷ map (λ f. strip_cells cells (cell_at cells f)) fs) (sym (cells_of_run cells f))
        ∙ ap (λ (cs : List (List Cell)). map (cell_at cells) (run_at cells f) ∷ cs) (same_map fs)

-- a strip from its indices
strip_is : (cells : List Cell) (i : ℕ) → strip_at cells (run_at cells i) ≡ strip_of (cell_at cells i) (strip_cells cells (cell_at cells i))
strip_is cells i =
    ap (λ f. strip_from f (length (run_at cells i)) (map (level_at cells) (run_at cells i))) (run_first cells i 0)
    ∙ ap (λ n. strip_from i n (map (level_at cells) (run_at cells i))) (sym (length-map (run_at cells i) (cell_at cells)) ∙ ap length (cells_of_run cells i))
    ∙ ap (strip_from i (length (strip_cells cells (cell_at cells i))))
    (sym (map-map (λ (cell : Cell). cell.at.level) (cell_at cells) (run_at cells i)) ∙ ap (map (λ (cell : Cell). cell.at.level)) (cells_of_run cells i))
  where
    strip_from : ℕ → ℕ → List ℕ → Strip
    strip_from f n levels = record {
      z = (cell_at cells f).at.z;
      x0 = (cell_at cells f).at.x;
      x1 = (cell_at cells f).at.x + n - 1;
      levels = levels;
      area = (cell_at cells f).area;
    }

pub strips_are : (cells : List Cell) → map (strip_at cells) (index_runs cells) ≡ strips_of cells
unfolding index_runs
strips_are cells =
    map-map (strip_at cells) (run_at cells) (firsts_below cells (length cells))
    ∙ same_map (firsts_below cells (length cells))
    ∙ sym (map-map (λ (first : Cell). strip_of first (strip_cells cells first)) (cell_at cells) (firsts_below cells (length cells)))
    ∙ ap (map (λ (first : Cell). strip_of first (strip_cells cells first))) (sym (firsts_are cells))
  where
    same_map : (fs : List ℕ) → map (λ f. strip_at cells (run_at cells f)) fs ≡ map (λ f. strip_of (cell_at cells f) (strip_cells cells (cell_at cells f))) fs
    same_map [] = refl
    same_map (f ∷ fs) =
        ap (λ (s : Strip). s ∷ map (λ f. strip_at cells (run_at cells f)) fs) (strip_is cells f)
        ∙ ap (λ (ss : List Strip). strip_of (cell_at cells f) (strip_cells cells (cell_at cells f)) ∷ ss) (same_map fs)
