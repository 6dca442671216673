-- Small cells: that small numbers give a cell back, which cells are small again, and reads of a place.
use Rattle.std.proofs.Common.{◌≡◌, ℕ, zero, suc, ◌<◌, ◌≤◌, Bool, true, false, List, [], ◌∷◌, length, map, get_or, refl, ap, ◌∙◌, arith}
use Rattle.std.specs.Prelude.{◌==◌, if◌then◌else◌, All, Option, Some, None, option_and_then, slice_get, slice_index_or}
use Rattle.std.proofs.lemmas.Bool.{eqb-true}
use Rattle.std.proofs.lemmas.List.{get_or_default}
use Rattle.std.proofs.lemmas.List.Elements.{All-nil, All-cons, All-head, All-tail}
use Rattle.nav_ground.specs.declared.cell.Cell.{Cell}
use Rattle.nav_ground.specs.declared.cell.CellRef.{CellRef}
use Rattle.nav_ground.specs.Cells.{next_level}
use Rattle.nav_ground.specs.Levels.{level_of, number_of, IsSmallLevel}
use Rattle.nav_ground.specs.SmallCells.{IsSmall}
use Rattle.nav_ground.specs.Packing.{cell_view}

-- the place of a cell that was read from a list
pub place_read : (cells : List Cell) (i : ℕ) (item : Cell) (at : CellRef) → i < length cells
    → item ≡ get_or cells i item → at ≡ item.at → (d : Cell) → at ≡ (get_or cells i d).at
place_read cells i item at there is same d = same ∙ ap (λ (cell : Cell). cell.at) (is ∙ get_or_default cells i item d there)

-- a small level comes back from its number
level_back : (level : Option ℕ) → IsSmallLevel level → level_of (number_of level) ≡ level
level_back None small = refl
level_back (Some n) small = by_test (n == 65535) (eqb-true n 65535)
  where
    by_test : (none : Bool) → (none ≡ true → n ≡ 65535) → (if none then None else Some n) ≡ Some n
    by_test true h = absurd (omega (arith, h refl, small))
    by_test false h = refl

levels_back : (levels : List (Option ℕ)) → All IsSmallLevel levels → map level_of (map number_of levels) ≡ levels
levels_back [] small = refl
levels_back (level ∷ levels) small =
    ap (λ l. l ∷ map level_of (map number_of levels)) (level_back level (All-head IsSmallLevel level levels small))
    ∙ ap (λ ls. level ∷ ls) (levels_back levels (All-tail IsSmallLevel level levels small))

-- four numbers that were read from four levels
four_numbers : (levels : List (Option ℕ)) (n0 n1 n2 n3 : ℕ) → length levels ≡ 4
    → n0 ≡ number_of (slice_index_or levels 0 None) → n1 ≡ number_of (slice_index_or levels 1 None)
    → n2 ≡ number_of (slice_index_or levels 2 None) → n3 ≡ number_of (slice_index_or levels 3 None)
    → (n0 ∷ n1 ∷ n2 ∷ n3 ∷ []) ≡ map number_of levels
four_numbers (a ∷ b ∷ c ∷ d ∷ []) n0 n1 n2 n3 four is0 is1 is2 is3 = rw (is0, is1, is2, is3) refl
four_numbers [] n0 n1 n2 n3 four is0 is1 is2 is3 = absurd (omega (arith, four))
four_numbers (a ∷ []) n0 n1 n2 n3 four is0 is1 is2 is3 = absurd (omega (arith, four))
four_numbers (a ∷ b ∷ []) n0 n1 n2 n3 four is0 is1 is2 is3 = absurd (omega (arith, four))
four_numbers (a ∷ b ∷ c ∷ []) n0 n1 n2 n3 four is0 is1 is2 is3 = absurd (omega (arith, four))
four_numbers (a ∷ b ∷ c ∷ d ∷ e ∷ more) n0 n1 n2 n3 four is0 is1 is2 is3 = absurd (omega (arith, four))

-- a small cell comes back from its numbers
pub small_back : (cell : Cell) (n0 n1 n2 n3 : ℕ) → IsSmall cell
    → n0 ≡ number_of (slice_index_or cell.next 0 None) → n1 ≡ number_of (slice_index_or cell.next 1 None)
    → n2 ≡ number_of (slice_index_or cell.next 2 None) → n3 ≡ number_of (slice_index_or cell.next 3 None)
    → cell_view (record {
      x = cell.at.x;
      z = cell.at.z;
      level = cell.at.level;
      floor = cell.floor;
      ceiling = cell.ceiling;
      area = cell.area;
      levels = n0 ∷ n1 ∷ n2 ∷ n3 ∷ [];
    }) ≡ cell
small_back cell n0 n1 n2 n3 small is0 is1 is2 is3 =
    ap (λ (next : List (Option ℕ)). record cell { next = next })
    (ap (map level_of) (four_numbers cell.next n0 n1 n2 n3 small.sides is0 is1 is2 is3) ∙ levels_back cell.next small.levels)

-- a level that a small cell names
level_small : (levels : List (Option ℕ)) (dir : ℕ) → All IsSmallLevel levels → IsSmallLevel (option_and_then (λ (next : Option ℕ). next) (slice_get levels dir))
level_small [] dir small = tt
level_small (level ∷ levels) zero small = All-head IsSmallLevel level levels small
level_small (level ∷ levels) (suc dir) small = level_small levels dir (All-tail IsSmallLevel level levels small)

pub next_small : (cell : Cell) (dir : ℕ) → IsSmall cell → IsSmallLevel (next_level cell dir)
next_small cell dir small = level_small cell.next dir small.levels

-- a small cell with another small area and four other small levels is small
pub small_with : (cell : Cell) (area : ℕ) (a b c d : Option ℕ) → IsSmall cell → area ≤ 255
    → IsSmallLevel a → IsSmallLevel b → IsSmallLevel c → IsSmallLevel d → IsSmall (record cell { area = area; next = a ∷ b ∷ c ∷ d ∷ [] })
small_with cell area a b c d small fits a' b' c' d' = record {
  x = small.x;
  z = small.z;
  level = small.level;
  floor = small.floor;
  ceiling = small.ceiling;
  area = fits;
  sides = refl;
  levels = All-cons IsSmallLevel a (b ∷ c ∷ d ∷ []) a' (All-cons IsSmallLevel b (c ∷ d ∷ []) b'
      (All-cons IsSmallLevel c (d ∷ []) c' (All-cons IsSmallLevel d [] d' (All-nil IsSmallLevel))));
}

-- levels that are kept or left out stay small
pub kept_small : (keeps : Bool) (level : Option ℕ) → IsSmallLevel level → IsSmallLevel (if keeps then level else None)
kept_small true level small = small
kept_small false level small = tt

pub lost_small : (loses : Bool) (level : Option ℕ) → IsSmallLevel level → IsSmallLevel (if loses then None else level)
lost_small true level small = tt
lost_small false level small = small

-- a small cell that keeps some of its levels is small
pub small_keeping : (cell : Cell) (area : ℕ) (keeps : ℕ → Bool) → IsSmall cell → area ≤ 255
    → IsSmall (record cell {
      area = area;
      next = (if keeps 0 then next_level cell 0 else None) ∷ (if keeps 1 then next_level cell 1 else None)
          ∷ (if keeps 2 then next_level cell 2 else None) ∷ (if keeps 3 then next_level cell 3 else None) ∷ [];
    })
small_keeping cell area keeps small fits = small_with cell area _ _ _ _ small fits
    (kept_small (keeps 0) _ (next_small cell 0 small)) (kept_small (keeps 1) _ (next_small cell 1 small))
    (kept_small (keeps 2) _ (next_small cell 2 small)) (kept_small (keeps 3) _ (next_small cell 3 small))

-- a small cell that loses some of its levels is small
pub small_losing : (cell : Cell) (area : ℕ) (loses : ℕ → Bool) → IsSmall cell → area ≤ 255
    → IsSmall (record cell {
      area = area;
      next = (if loses 0 then None else next_level cell 0) ∷ (if loses 1 then None else next_level cell 1)
          ∷ (if loses 2 then None else next_level cell 2) ∷ (if loses 3 then None else next_level cell 3) ∷ [];
    })
small_losing cell area loses small fits = small_with cell area _ _ _ _ small fits
    (lost_small (loses 0) _ (next_small cell 0 small)) (lost_small (loses 1) _ (next_small cell 1 small))
    (lost_small (loses 2) _ (next_small cell 2 small)) (lost_small (loses 3) _ (next_small cell 3 small))
