-- The rectangles of strips are sound polygons in the tile's square.
use Rattle.std.proofs.Common.{◌≡◌, ℕ, ◌+◌, ◌-◌, ◌<◌, ◌≤◌, ℤ, pos, ◌≤ℤ◌, ◌<ℤ◌, length, List, [], ◌∷◌, get_or, ◌∙◌, refl, subst, arith}
use Rattle.std.specs.Prelude.{All}
use Rattle.std.proofs.lemmas.Int.{ints}
use Rattle.std.proofs.lemmas.List.Elements.{All-cons, All-nil, All-weaker}
use Rattle.nav_base.specs.declared.point.Point.{Point}
use Rattle.nav_base.specs.Point.{IsCellCorner}
use Rattle.nav_ground.specs.declared.cell.Cell.{Cell}
use Rattle.nav_ground.specs.declared.cell.Window.{Window}
use Rattle.nav_ground.specs.Cells.{IsCell}
use Rattle.nav_ground.specs.Tiling.{IsInWindow}
use Rattle.mesh_types.specs.FitTiles.{IsPolygon, IsInSquare}
use Rattle.mesh_types.specs.StripPolygons.{some_cell, first_of, corner, strip_polygon}
use Rattle.mesh_types.proofs.FloorLaws.{low_first, high_small}
use Rattle.strip_mesh.proofs.Rectangles.{rectangle_convex}
use Rattle.strip_mesh.proofs.RowLaws.{IsRow}

corner_in : (x z : ℕ) → x ≤ 1024 → z ≤ 1024 → IsCellCorner (corner x z)
corner_in x z x-in z-in = record {
  left = omega (arith, ints);
  right = omega (arith, ints);
  bottom = omega (arith, ints);
  top = omega (arith, ints);
}

wide : (a b : ℕ) → a < b → pos a <ℤ pos b
wide a b h = omega (arith, ints)

all_four : (P : Point → Type 0) (a b c d : Point) → P a → P b → P c → P d → All P (a ∷ b ∷ c ∷ d ∷ [])
all_four P a b c d pa pb pc pd =
    All-cons P a (b ∷ c ∷ d ∷ []) pa (All-cons P b (c ∷ d ∷ []) pb (All-cons P c (d ∷ []) pc (All-cons P d [] pd (All-nil P))))

pub polygon_sound : (own : List Cell) → IsRow own → IsPolygon (strip_polygon own)
polygon_sound own row =
    let x0 = (first_of own).at.x in
    let z = (first_of own).at.z in
    let x1 = (first_of own).at.x + length own - 1 in
    let first = row.each 0 some_cell row.some in
    let inside : length own - 1 < length own = omega (arith, row.some) in
    let last = row.each (length own - 1) some_cell inside in
    let end : x1 + 1 ≤ 1024 = omega (arith, last.x, row.x (length own - 1) some_cell inside, row.some) in
    let most : z + 1 ≤ 1024 = omega (arith, first.z) in
    record {
      convex = rectangle_convex (pos x0) (pos (x1 + 1)) (pos z) (pos (z + 1)) (wide x0 (x1 + 1) (omega (arith, row.some))) (wide z (z + 1) (omega arith));
      most = omega arith;
      corners = all_four IsCellCorner (corner x0 z) (corner (x1 + 1) z) (corner (x1 + 1) (z + 1)) (corner x0 (z + 1))
          (corner_in x0 z (omega (arith, first.x)) (omega (arith, most))) (corner_in (x1 + 1) z end (omega (arith, most)))
          (corner_in (x1 + 1) (z + 1) end most) (corner_in x0 (z + 1) (omega (arith, first.x)) most);
      area = first.area;
      floors = low_first own;
      high = high_small own row.some (All-weaker IsCell (λ (cell : Cell). cell.floor ≤ 8191) (λ cell is. is.floor) own row.each);
    }

corner_inside : (window : Window) (x z a b c d : ℕ) → x ≡ a → window.x0 ≤ℤ pos a → pos b ≤ℤ window.x1 → a ≤ b + 1 → window.z0 ≤ℤ pos c → pos d ≤ℤ window.z1
    → z ≡ c → c ≤ d + 1 → IsInSquare window (corner x z)
corner_inside window x z a b c d xe left right near bottom top ze near' = record {
  left = omega (arith, ints);
  right = omega (arith, ints);
  bottom = omega (arith, ints);
  top = omega (arith, ints);
}

lower : (w : ℤ) (a b : ℕ) → w ≤ℤ pos a → a ≤ b → w ≤ℤ pos b
lower w a b h k = omega (arith, ints)

pub polygon_inside : (window : Window) (own : List Cell) → IsRow own → All (λ (cell : Cell). IsInWindow window cell.at.x cell.at.z) own
    → All (IsInSquare window) (strip_polygon own).corners
polygon_inside window own row each =
    let x0 = (first_of own).at.x in
    let z = (first_of own).at.z in
    let x1 = (first_of own).at.x + length own - 1 in
    let first = each 0 some_cell row.some in
    let inside : length own - 1 < length own = omega (arith, row.some) in
    let last = each (length own - 1) some_cell inside in
    let end : (get_or own (length own - 1) some_cell).at.x ≡ x1 = row.x (length own - 1) some_cell inside ∙ omega (arith, row.some) in
    let right : pos x1 ≤ℤ window.x1 = subst (λ n. pos n ≤ℤ window.x1) end last.x_most in
    let less : x0 ≤ x1 + 1 = omega (arith, row.some) in
    all_four (IsInSquare window) (corner x0 z) (corner (x1 + 1) z) (corner (x1 + 1) (z + 1)) (corner x0 (z + 1))
    (corner_inside window x0 z x0 x1 z z refl first.x_least right less first.z_least first.z_most refl (omega arith))
    (corner_inside window (x1 + 1) z (x1 + 1) x1 z z refl (lower window.x0 x0 (x1 + 1) first.x_least less) right (omega arith) first.z_least first.z_most refl (omega arith))
    (corner_inside window (x1 + 1) (z + 1) (x1 + 1) x1 (z + 1) z refl (lower window.x0 x0 (x1 + 1) first.x_least less) right (omega arith)
    (lower window.z0 z (z + 1) first.z_least (omega arith)) first.z_most refl (omega arith))
    (corner_inside window x0 (z + 1) x0 x1 (z + 1) z refl first.x_least right less (lower window.z0 z (z + 1) first.z_least (omega arith)) first.z_most refl (omega arith))
