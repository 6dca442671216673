-- Linked polygons stand in tiles whose squares touch: in one row of tiles, or in two that follow each other.
use Rattle.std.proofs.Common.{◌≡◌, ℕ, ◌<◌, ◌≤◌, ◌+◌, ◌-◌, ◌*◌, ◌/◌, ◌%◌, min, ℤ, pos, ◌+ℤ◌, ◌*ℤ◌, ◌≤ℤ◌, List, [], length, get_or, refl, subst, ap, add-mul, arith, inl, inr}
use Rattle.std.specs.Prelude.{All, Contains, Some, None, Option, slice_get}
use Rattle.std.specs.Int.{abs_diff}
use Rattle.std.specs.Option.{option_map_or}
use Rattle.std.proofs.Math.Nat.{mul-le-mul_right}
use Rattle.std.proofs.lemmas.Int.{ints}
use Rattle.std.proofs.lemmas.Nat.{div-add-mod'}
use Rattle.std.proofs.lemmas.Bool.{cases_lt, cases_order}
use Rattle.std.proofs.lemmas.List.Elements.{All-contains, All-nil}
use Rattle.std.proofs.lemmas.Option.{slice_get_within, get_or_from_slice_get}
use Rattle.nav_ground.specs.declared.setting.Setting.{Setting}
use Rattle.nav_ground.specs.Limits.{IsSetting}
use Rattle.nav_ground.specs.Tiling.{tiles_in_row, corner_x, corner_z, tile_window}
use Rattle.mesh_types.specs.declared.links.PolyRef.{PolyRef}
use Rattle.mesh_types.specs.declared.links.Link.{Link}
use Rattle.mesh_types.specs.declared.polygon.Polygon.{Polygon}
use Rattle.mesh_types.specs.declared.mesh.Mesh.{Mesh}
use Rattle.mesh_types.specs.WholeMesh.{poly_at}
use Rattle.mesh_types.specs.FitTiles.{IsInSquare}
use Rattle.mesh_types.specs.Soundness.{IsCrossLink, IsSound}
use Rattle.mesh_types.specs.Portals.{LeadsThrough}
use Rattle.corridor_search.specs.Changes.{IsBeside}
use Rattle.corridor_search.specs.Islands.{outer_of, IsFromInside, IsReached, AreFar}
use Rattle.corridor_search.proofs.Boxes.{low, high, low-bound, high-bound, begin_on, end_on}
use Rattle.corridor_search.proofs.Sound.{placed, tile-fit, tile-number, polygon-rules}
use Rattle.corridor_search.proofs.LinkWeights.{edge_in_box}

-- the box of a polygon lies in the square of its tile
record IsHeld (setting : Setting) (t : ℕ) (polygon : Polygon) : Type 0 where
  pub left : pos (corner_x setting t) ≤ℤ low (λ p. p.x) polygon.corners
  pub right : high (λ p. p.x) polygon.corners ≤ℤ pos (corner_x setting t + setting.tile)
  pub bottom : pos (corner_z setting t) ≤ℤ low (λ p. p.z) polygon.corners
  pub top : high (λ p. p.z) polygon.corners ≤ℤ pos (corner_z setting t + setting.tile)

held_in_tile : (mesh : Mesh) (at : PolyRef) (polygon : Polygon) → IsSound mesh → IsSetting mesh.setting → poly_at mesh at ≡ Some polygon → IsHeld mesh.setting at.tile polygon
held_in_tile mesh at polygon sound setting is =
    let held = placed mesh at polygon is in
    let square = subst (λ (p : Polygon). All (IsInSquare (tile_window mesh.setting held.tile.tile)) p.corners)
    (get_or_from_slice_get held.tile.polys at.index polygon polygon held.is)
    ((tile-fit mesh at.tile held.tile sound held.tile_is).square at.index polygon (slice_get_within held.tile.polys at.index polygon held.is)) in
    subst (λ (t : ℕ). IsHeld mesh.setting t polygon) (tile-number mesh at.tile held.tile sound held.tile_is) (in_square held.tile.tile square)
  where
    some : 0 < length polygon.corners
    some =
        let enough = (polygon-rules mesh at polygon sound is).convex.enough in
        omega (arith, enough)

    most : (start edge side : ℕ) (h : ℤ) → 4 ≤ side → h ≤ℤ (pos (min edge (start + side) - 1) +ℤ pos 1) → h ≤ℤ pos (start + side)
    most start edge side h least below = omega (arith, ints)

    in_square : (t : ℕ) → All (IsInSquare (tile_window mesh.setting t)) polygon.corners → IsHeld mesh.setting t polygon
    in_square t square = record {
      left = low-bound (λ p. p.x) polygon.corners (pos (corner_x mesh.setting t)) some (λ k d there. (square k d there).left);
      right = most (corner_x mesh.setting t) mesh.setting.width mesh.setting.tile _ setting.tile_least
          (high-bound (λ p. p.x) polygon.corners _ some (λ k d there. (square k d there).right));
      bottom = low-bound (λ p. p.z) polygon.corners (pos (corner_z mesh.setting t)) some (λ k d there. (square k d there).bottom);
      top = most (corner_z mesh.setting t) mesh.setting.depth mesh.setting.tile _ setting.tile_least
          (high-bound (λ p. p.z) polygon.corners _ some (λ k d there. (square k d there).top));
    }

-- a square that begins at a place does not begin past the end of one that it touches
touch : (c d side : ℕ) (l h q : ℤ) → pos c ≤ℤ l → h ≤ℤ pos (d + side) → (pos 16 *ℤ l) ≤ℤ q → q ≤ℤ (pos 16 *ℤ h) → c ≤ d + side
touch c d side l h q begins ends above below = omega (arith, ints)

next_place : (a b side : ℕ) → 4 ≤ side → a * side ≤ b * side + side → a ≤ b + 1
next_place a b side some h =
    elim (cases_lt (b + 1) a) [
      | inl far ↦
          let up : (b + 2) * side ≤ a * side = mul-le-mul_right side (omega (arith, far)) in
          absurd (omega (arith, up, add-mul b 2 side, some, h))
      | inr near ↦ near
    ]

-- the numbers of tiles in such places differ by no more than a row and one
next_number : (a b row : ℕ) → a % row ≤ b % row + 1 → a / row ≤ b / row + 1 → a ≤ b + (row + 1)
next_number a b row column line =
    let up : (a / row) * row ≤ (b / row + 1) * row = mul-le-mul_right row line in
    omega (arith, up, add-mul (b / row) 1 row, div-add-mod' a row, div-add-mod' b row, column)

-- the places of two tiles in their rows, and the rows themselves, differ by no more than one
record ArePlacedNear (row a b : ℕ) : Type 0 where
  pub column_on : a % row ≤ b % row + 1
  pub column_back : b % row ≤ a % row + 1
  pub line_on : a / row ≤ b / row + 1
  pub line_back : b / row ≤ a / row + 1

-- then the one is beside the other by its number
numbered_near : (row a b : ℕ) → ArePlacedNear row a b → IsBeside row b a
numbered_near row a b near = record {
  beside = elim (cases_order (a / row) (b / row)) [
    | inl same ↦
        let level : (a / row) * row ≡ (b / row) * row = ap (λ n. n * row) same in
        inr (inl (record { near = omega (arith, level, div-add-mod' a row, div-add-mod' b row, near.column_on, near.column_back) }))
    | inr apart ↦ elim apart [
      | inl below ↦
          let next : b / row ≡ a / row + 1 = omega (arith, below, near.line_back) in
          let up : (b / row) * row ≡ (a / row + 1) * row = ap (λ n. n * row) next in
          inl (record { near = omega (arith, up, add-mul (a / row) 1 row, div-add-mod' a row, div-add-mod' b row, near.column_on, near.column_back) })
      | inr above ↦
          let next : a / row ≡ b / row + 1 = omega (arith, above, near.line_on) in
          let up : (a / row) * row ≡ (b / row + 1) * row = ap (λ n. n * row) next in
          inr (inr (record { near = omega (arith, up, add-mul (b / row) 1 row, div-add-mod' a row, div-add-mod' b row, near.column_on, near.column_back) }))
    ]
  ];
}

module _ (mesh : Mesh) (link : Link) (sound : IsSound mesh) (setting : IsSetting mesh.setting) (through : LeadsThrough (poly_at mesh link.from) (poly_at mesh link.to) link) where
  placed_near : ArePlacedNear (tiles_in_row mesh.setting) link.from.tile link.to.tile
  placed_near =
      let s = mesh.setting in
      let t = link.from.tile in
      let u = link.to.tile in
      let p = link.portal.left in
      let in_from = edge_in_box through.leaves link.edge p through.out.there (end_on _ _ _ _ through.out.lies) in
      let in_to = edge_in_box through.enters through.into.edge p through.into.there (begin_on _ _ _ _ through.into.lies) in
      let from = held_in_tile mesh link.from through.leaves sound setting through.is_left in
      let to = held_in_tile mesh link.to through.enters sound setting through.is_entered in
      record {
        column_on = next_place _ _ s.tile setting.tile_least (touch (corner_x s t) (corner_x s u) s.tile _ _ p.x from.left to.right in_from.left in_to.right);
        column_back = next_place _ _ s.tile setting.tile_least (touch (corner_x s u) (corner_x s t) s.tile _ _ p.x to.left from.right in_to.left in_from.right);
        line_on = next_place _ _ s.tile setting.tile_least (touch (corner_z s t) (corner_z s u) s.tile _ _ p.z from.bottom to.top in_from.bottom in_to.top);
        line_back = next_place _ _ s.tile setting.tile_least (touch (corner_z s u) (corner_z s t) s.tile _ _ p.z to.bottom from.top in_to.bottom in_from.top);
      }

  pub beside : abs_diff link.from.tile link.to.tile ≤ tiles_in_row mesh.setting + 1
  beside =
      let near = placed_near in
      let on = next_number link.from.tile link.to.tile (tiles_in_row mesh.setting) near.column_on near.line_on in
      let back = next_number link.to.tile link.from.tile (tiles_in_row mesh.setting) near.column_back near.line_back in
      omega (arith, on, back)

  -- the tile that a link leaves is beside the one that it enters
  pub leaves-beside : IsBeside (tiles_in_row mesh.setting) link.to.tile link.from.tile
  leaves-beside = numbered_near (tiles_in_row mesh.setting) link.from.tile link.to.tile placed_near

-- so no link over the border of a tile leads to an island whose tiles are all far from it
pub outer-far : (mesh : Mesh) (island : List PolyRef) (tiles : List ℕ) (t : ℕ) → IsSound mesh → IsSetting mesh.setting → All (IsReached tiles) island
    → All (AreFar (tiles_in_row mesh.setting) t) tiles → All (IsFromInside island) (outer_of mesh t)
outer-far mesh island tiles t sound setting reached apart = by_links (slice_get mesh.cross t) refl
  where
    by_links : (o : Option (List Link)) → slice_get mesh.cross t ≡ o → All (IsFromInside island) (option_map_or (λ (links : List Link). links) o [])
    by_links None is = All-nil (IsFromInside island)
    by_links (Some links) is = each
      where
        all : All (IsCrossLink mesh t) links
        all =
            subst (All (IsCrossLink mesh t)) (get_or_from_slice_get mesh.cross t links links is)
            (sound.cross t links (slice_get_within mesh.cross t links is))

        each : (k : ℕ) (d : Link) → k < length links → IsFromInside island (get_or links k d)
        each k d below = record { inside = none }
          where
            none : Contains island (get_or links k d).to → Contains island (get_or links k d).from
            none held =
                let cross = all k d below in
                let near = beside mesh (get_or links k d) sound setting cross.through in
                let there = (All-contains (IsReached tiles) island (get_or links k d).to reached held).tile in
                let far = (All-contains (AreFar (tiles_in_row mesh.setting) t) tiles (get_or links k d).to.tile apart there).far in
                absurd (omega (arith, near, far, cross.from_here))
