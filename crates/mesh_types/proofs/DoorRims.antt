-- What the rim lists for doors lies along the sides of the tile.
use Rattle.std.proofs.Common.{◌≡◌, ℕ, zero, suc, ◌+◌, ◌-◌, ◌<◌, ◌≤◌, ℤ, pos, ◌≤ℤ◌, ◌+ℤ◌, true, List, [], length, get_or, map, ap, ◌∙◌, refl, sym, subst, arith, Option, Some, None}
use Rattle.std.specs.Prelude.{All, slice_get, unsigned_abs, ◌&&◌}
use Rattle.std.specs.List.{range_with_len}
use Rattle.std.specs.Option.{option_map_or}
use Rattle.std.specs.Ordering.{int_eq}
use Rattle.std.proofs.lemmas.Bool.{and_parts}
use Rattle.std.proofs.lemmas.Bool.Decides.{Decides-int_eq}
use Rattle.std.proofs.lemmas.Int.{ints}
use Rattle.std.proofs.lemmas.List.{length-map}
use Rattle.std.proofs.lemmas.List.Elements.{All-map, All-nil}
use Rattle.std.proofs.lemmas.List.FromFn.{get_or-range_with_len, length-range_with_len}
use Rattle.nav_base.specs.declared.point.Point.{Point}
use Rattle.nav_base.specs.Point.{IsCellCorner}
use Rattle.nav_base.specs.Convex.{corner_at, place_after}
use Rattle.nav_base.proofs.ConvexLaws.{place_after-in}
use Rattle.nav_ground.specs.declared.setting.Setting.{Setting}
use Rattle.nav_ground.specs.declared.cell.Cell.{Cell}
use Rattle.nav_ground.specs.declared.cell.Window.{Window}
use Rattle.nav_ground.specs.Tiling.{tile_window}
use Rattle.nav_ground.proofs.Found.{found_in}
use Rattle.mesh_types.specs.declared.region.Regions.{Regions}
use Rattle.mesh_types.specs.declared.region.PortalEdge.{PortalEdge}
use Rattle.mesh_types.specs.declared.region.RegionPart.{RegionPart}
use Rattle.mesh_types.specs.declared.polygon.Polygon.{Polygon}
use Rattle.mesh_types.specs.declared.region.LabelRun.{LabelRun}
use Rattle.mesh_types.specs.declared.mesh.TileMesh.{TileMesh}
use Rattle.mesh_types.specs.Runs.{label_if, runs_of}
use Rattle.mesh_types.specs.FitTiles.{IsRimOf, LiesOnSide, RunsOver}
use Rattle.mesh_types.specs.Facets.{Facet, facet_polygon}
use Rattle.mesh_types.specs.DoorRim.{crossing_pair, door_entries, door_entry, door_rim, end_position, first_position, is_listed, is_on_line, lies_on, names_side, positions_of, side_entries, side_of}
use Rattle.mesh_types.proofs.Words.{no_facet}
use Rattle.mesh_types.proofs.DoorLaws.{IsDoorOf, facet_at, facet_corners, polygon_there}
use Rattle.mesh_types.proofs.FacetLaws.{IsFacetOf, corners_all}
use Rattle.mesh_types.proofs.Gathered.{all_of_each}
use Rattle.mesh_types.proofs.RimPlaces.{IsTileCorner}
use Rattle.mesh_types.proofs.RunLaws.{IsRunOf, runs_are_runs}

-- ---- a door on a side

same_number : (a b : ℤ) → int_eq a b ≡ true → a ≡ b
same_number a b h = (Decides-int_eq a b).0 h

on_side : (window : Window) (side : ℕ) (u v : Point) → side < 4 → is_on_line window side u ≡ true → is_on_line window side v ≡ true → LiesOnSide window side u v
on_side window zero u v small h k = (same_number u.x window.x0 h, same_number v.x window.x0 k)
on_side window (suc zero) u v small h k = (same_number u.z (window.z1 +ℤ pos 1) h, same_number v.z (window.z1 +ℤ pos 1) k)
on_side window (suc (suc zero)) u v small h k = (same_number u.x (window.x1 +ℤ pos 1) h, same_number v.x (window.x1 +ℤ pos 1) k)
on_side window (suc (suc (suc zero))) u v small h k = (same_number u.z window.z0 h, same_number v.z window.z0 k)
on_side window (suc (suc (suc (suc side)))) u v small h k = absurd (omega (arith, small))

-- positions are parts of corners
up_to : (z : ℤ) (n : ℕ) → pos 0 ≤ℤ z → unsigned_abs z ≤ n → z ≤ℤ pos n
up_to z n h k = omega (arith, ints)

down_to : (z : ℤ) (n : ℕ) → pos 0 ≤ℤ z → n ≤ unsigned_abs z → pos n ≤ℤ z
down_to z n h k = omega (arith, ints)

over_side : (side : ℕ) (door : PortalEdge) (first end : ℕ) → side < 4 → IsCellCorner door.begin → IsCellCorner door.end → first_position side door ≤ first
    → end ≤ end_position side door → RunsOver side door.begin door.end first end
over_side zero door first end small b e low high = (up_to door.end.z first e.bottom low, down_to door.begin.z end b.bottom high)
over_side (suc zero) door first end small b e low high = (up_to door.end.x first e.left low, down_to door.begin.x end b.left high)
over_side (suc (suc zero)) door first end small b e low high = (up_to door.begin.z first b.bottom low, down_to door.end.z end e.bottom high)
over_side (suc (suc (suc zero))) door first end small b e low high = (up_to door.begin.x first b.left low, down_to door.end.x end e.left high)
over_side (suc (suc (suc (suc side)))) door first end small b e low high = absurd (omega (arith, small))

module _ (setting : Setting) (cells : List Cell) (regions : Regions) (parts : List RegionPart) (facets : List Facet) (tile : TileMesh)
    (each : All (IsFacetOf (tile_window setting tile.tile) parts) facets) (doors : List PortalEdge) (are : All (IsDoorOf parts facets) doors)
    (polys : tile.polys ≡ map (facet_polygon cells regions) facets) where
  abbrev window : Window
  window = tile_window setting tile.tile

  -- the ends of a door are corners of cells
  corners_are : (door : PortalEdge) → IsDoorOf parts facets door → IsCellCorner door.begin × IsCellCorner door.end
  corners_are door is =
      let facet : Facet = facet_at facets door.polygon in
      let of : IsFacetOf window parts facet = each door.polygon no_facet is.there in
      let all : All (IsTileCorner window) (facet_corners facet) = corners_all (IsTileCorner window) facet of.corners of.piece.places in
      let P : Point → Type 0 = IsCellCorner in (
        subst P is.begins (all door.edge (record { x = pos 0; z = pos 0 }) is.edge).of_cell,
        subst P is.ends (all (place_after (length (facet_corners facet)) door.edge) (record { x = pos 0; z = pos 0 })
            (place_after-in (length (facet_corners facet)) door.edge is.edge)).of_cell,
      )

  entry_fits : (door : PortalEdge) → IsDoorOf parts facets door → (side : ℕ) → side < 4 → lies_on window door side ≡ true → (run : LabelRun)
      → IsRunOf (map (λ position. label_if (is_listed window cells regions doors door side position)) (positions_of side door)) run
      → IsRimOf setting tile (door_entry window cells regions door side run)
  entry_fits door is side small lies run runs =
      let outer = and_parts (names_side door.code side && is_on_line window side door.begin) (is_on_line window side door.end) lies in
      let inner = and_parts (names_side door.code side) (is_on_line window side door.begin) outer.0 in
      let corners : List Point = facet_corners (facet_at facets door.polygon) in
      let after : ℕ = place_after (length corners) door.edge in
      let L : Point → Point → Type 0 = LiesOnSide window side in
      let first : ℕ = first_position side door + run.first in
      let R : Point → Point → Type 0 = λ u v. RunsOver side u v first (first + (run.last + 1 - run.first)) in
      let count = length-map (positions_of side door) (λ position. label_if (is_listed window cells regions doors door side position)) in
      let span = length-range_with_len (first_position side door) (end_position side door - first_position side door) in
      let ends = corners_are door is in
      let many : length (map (crossing_pair window cells regions door.region side) (range_with_len first (run.last + 1 - run.first))) ≡ run.last + 1 - run.first =
      length-map (range_with_len first (run.last + 1 - run.first)) (crossing_pair window cells regions door.region side)
      ∙ length-range_with_len first (run.last + 1 - run.first) in
      record {
        side = small;
        polygon = facet_polygon cells regions (facet_at facets door.polygon);
        is_there = ap (λ (ps : List Polygon). slice_get ps door.polygon) polys ∙ polygon_there cells regions window parts facets each doors are door.polygon is.there;
        edge = is.edge;
        lies = subst (λ u. L u (corner_at corners after)) (sym is.begins) (subst (L door.begin) (sym is.ends) (on_side window side door.begin door.end small inner.1 outer.1));
        runs = λ some. rw many (subst (λ u. R u (corner_at corners after)) (sym is.begins) (subst (R door.begin) (sym is.ends)
            (over_side side door first (first + (run.last + 1 - run.first)) small ends.0 ends.1 (omega arith) (omega (arith, runs.order, runs.inside, count, span)))));
      }

  door_fits : (door : PortalEdge) → IsDoorOf parts facets door → All (IsRimOf setting tile) (door_entries window cells regions doors door)
  door_fits door is = by_case (side_of window door) refl
    where
      by_case : (o : Option ℕ) → side_of window door ≡ o → All (IsRimOf setting tile) (option_map_or (side_entries window cells regions doors door) o [])
      by_case None found = All-nil (IsRimOf setting tile)
      by_case (Some side) found =
          let at = found_in (lies_on window door) (range_with_len 0 4) side found in
          let count = length-range_with_len 0 4 in
          let value = get_or-range_with_len 0 4 at.place side (omega (arith, at.there, count)) in
          let small : side < 4 = omega (arith, at.at, value, at.there, count) in
          let labels = map (λ position. label_if (is_listed window cells regions doors door side position)) (positions_of side door) in
          All-map (IsRimOf setting tile) (door_entry window cells regions door side) (runs_of labels)
          (λ k d there. entry_fits door is side small at.passes (get_or (runs_of labels) k d) (runs_are_runs labels k d there))

  -- all that the rim lists
  pub rim_fits : All (IsRimOf setting tile) (door_rim window cells regions doors)
  rim_fits = all_of_each (IsRimOf setting tile) (door_entries window cells regions doors) doors (λ k d there. door_fits (get_or doors k d) (are k d there))
