-- What the rim lists lies along the sides of the tile.
use Rattle.std.proofs.Common.{◌≡◌, ℕ, ◌+◌, ◌-◌, ◌<◌, ◌≤◌, true, ℤ, pos, ◌≤ℤ◌, ◌+ℤ◌, length, List, map, get_or, ◌∙◌, sym, subst, arith, zero, suc}
use Rattle.std.specs.Prelude.{All, None}
use Rattle.std.proofs.lemmas.Bool.{and_parts}
use Rattle.std.proofs.lemmas.Int.{ints}
use Rattle.std.proofs.lemmas.List.{get_or-map}
use Rattle.nav_base.specs.Convex.{corner_at, place_after}
use Rattle.nav_ground.specs.declared.cell.Cell.{Cell}
use Rattle.nav_ground.specs.declared.cell.Window.{Window}
use Rattle.nav_ground.specs.Tiling.{IsInWindow}
use Rattle.mesh_types.specs.declared.region.LabelRun.{LabelRun}
use Rattle.mesh_types.specs.Runs.{label_if}
use Rattle.mesh_types.specs.FitTiles.{LiesOnSide, RunsOver}
use Rattle.mesh_types.specs.StripPolygons.{some_cell, first_of, strip_polygon}
use Rattle.mesh_types.specs.Crossings.{is_at_side, is_crossing, position_of}
use Rattle.mesh_types.specs.StripLinks.{outside_of}
use Rattle.mesh_types.proofs.RunLaws.{IsRunOf, labelled_true}
use Rattle.mesh_types.proofs.SidePlaces.{at_most, squeezed}
use Rattle.strip_mesh.proofs.RowLaws.{IsRow}

exactly : (w : ℤ) (a b : ℕ) → w ≤ℤ pos a → pos b ≤ℤ w → a ≡ b → pos a ≡ w
exactly w a b low high e = omega (arith, ints)

exactly_next : (w : ℤ) (a b : ℕ) → w ≤ℤ pos a → pos b ≤ℤ w → a ≤ b → pos (b + 1) ≡ w +ℤ pos 1
exactly_next w a b low high e = omega (arith, ints)

no_more : (a b : ℕ) → a ≤ b → pos a ≤ℤ pos b
no_more a b h = omega (arith, ints)

-- the cells of a part lie beside the tile's side
pub part_at_side : (window : Window) (dir : ℕ) (own : List Cell) (part : LabelRun)
    → IsRunOf (map (λ (cell : Cell). label_if (is_crossing window dir cell)) own) part → (k : ℕ) → part.first ≤ k → k ≤ part.last → k < length own
    → is_at_side window dir (get_or own k some_cell).at ≡ true
part_at_side window dir own part is k least most inside =
    let f = λ (cell : Cell). label_if (is_crossing window dir cell) in
    (and_parts (is_at_side window dir (get_or own k some_cell).at) _
    (labelled_true (is_crossing window dir (get_or own k some_cell)) part.label (sym (get_or-map f own k some_cell None inside) ∙ is.labelled k least most))).0

-- an edge with a part at a side lies on the side, and runs over the part's positions
pub rim_placed : (edge : ℕ) (window : Window) (own : List Cell) (first last : ℕ) → edge < 4 → IsRow own
    → All (λ (cell : Cell). IsInWindow window cell.at.x cell.at.z) own → first ≤ last → last < length own
    → is_at_side window (outside_of edge) (get_or own first some_cell).at ≡ true → is_at_side window (outside_of edge) (get_or own last some_cell).at ≡ true
    → LiesOnSide window (outside_of edge) (corner_at (strip_polygon own).corners edge) (corner_at (strip_polygon own).corners (place_after 4 edge))
    × RunsOver (outside_of edge) (corner_at (strip_polygon own).corners edge) (corner_at (strip_polygon own).corners (place_after 4 edge))
    (position_of (outside_of edge) (get_or own first some_cell).at) (position_of (outside_of edge) (get_or own first some_cell).at + (last + 1 - first))
rim_placed zero window own first last small row each order inside f l =
    let first-in : first < length own = omega (arith, order, inside) in
    let corner = each 0 some_cell row.some in
    let z = row.z first some_cell first-in in
    let x = row.x first some_cell first-in in
    let on = exactly window.z0 (first_of own).at.z (get_or own first some_cell).at.z corner.z_least (at_most _ _ f) (sym z) in (
      (on, on),
      (
        no_more (first_of own).at.x (get_or own first some_cell).at.x (omega (arith, x)),
        no_more ((get_or own first some_cell).at.x + (last + 1 - first)) ((first_of own).at.x + length own - 1 + 1) (omega (arith, x, order, inside)),
      ),
    )
rim_placed (suc zero) window own first last small row each order inside f l =
    let first-in : first < length own = omega (arith, order, inside) in
    let end-in : length own - 1 < length own = omega (arith, row.some) in
    let end = each (length own - 1) some_cell end-in in
    let end_x = row.x (length own - 1) some_cell end-in in
    let x = row.x first some_cell first-in in
    let z = row.z first some_cell first-in in
    let close = squeezed window.x1 (get_or own first some_cell).at.x (get_or own (length own - 1) some_cell).at.x (at_most _ _ f) end.x_most in
    let x1 : (get_or own (length own - 1) some_cell).at.x ≡ (first_of own).at.x + length own - 1 = omega (arith, end_x, row.some) in
    let on = exactly_next window.x1 (get_or own first some_cell).at.x ((first_of own).at.x + length own - 1) (at_most _ _ f)
    (subst (λ n. pos n ≤ℤ window.x1) x1 end.x_most) (omega (arith, x, first-in)) in (
      (on, on),
      (
        no_more (first_of own).at.z (get_or own first some_cell).at.z (omega (arith, z)),
        no_more ((get_or own first some_cell).at.z + (last + 1 - first)) ((first_of own).at.z + 1) (omega (arith, z, x, end_x, close, order, inside)),
      ),
    )
rim_placed (suc (suc zero)) window own first last small row each order inside f l =
    let first-in : first < length own = omega (arith, order, inside) in
    let corner = each 0 some_cell row.some in
    let z = row.z first some_cell first-in in
    let x = row.x first some_cell first-in in
    let on = exactly_next window.z1 (get_or own first some_cell).at.z (first_of own).at.z (at_most _ _ f) corner.z_most (omega (arith, z)) in (
      (on, on),
      (
        no_more (first_of own).at.x (get_or own first some_cell).at.x (omega (arith, x)),
        no_more ((get_or own first some_cell).at.x + (last + 1 - first)) ((first_of own).at.x + length own - 1 + 1) (omega (arith, x, order, inside)),
      ),
    )
rim_placed (suc (suc (suc zero))) window own first last small row each order inside f l =
    let first-in : first < length own = omega (arith, order, inside) in
    let corner = each 0 some_cell row.some in
    let z = row.z first some_cell first-in in
    let x = row.x first some_cell first-in in
    let x' = row.x last some_cell inside in
    let close = squeezed window.x0 (first_of own).at.x (get_or own last some_cell).at.x corner.x_least (at_most _ _ l) in
    let on = exactly window.x0 (first_of own).at.x (get_or own first some_cell).at.x corner.x_least (at_most _ _ f) (omega (arith, x, x', close, order)) in (
      (on, on),
      (
        no_more (first_of own).at.z (get_or own first some_cell).at.z (omega (arith, z)),
        no_more ((get_or own first some_cell).at.z + (last + 1 - first)) ((first_of own).at.z + 1) (omega (arith, z, x', close, order)),
      ),
    )
rim_placed (suc (suc (suc (suc edge)))) window own first last small row each order inside f l = absurd (omega (arith, small))
