-- The tiles that have a place within reach.
use Rattle.std.proofs.Common.{◌≡◌, ℕ, ◌+◌, ◌-◌, ◌*◌, ◌/◌, ◌%◌, ◌≤◌, ◌<◌, ◌⊎◌, inl, inr, ℤ, pos, negsuc, ◌+ℤ◌, ◌-ℤ◌, ◌*ℤ◌, ◌≤ℤ◌, sym, subst, ◌∙◌, arith}
use Rattle.std.specs.Prelude.{min, unsigned_abs}
use Rattle.std.proofs.lemmas.Bool.{cases_lt}
use Rattle.std.proofs.lemmas.Int.{ints}
use Rattle.std.proofs.lemmas.Nat.{div-add-mod', div_below, le-div, mul-le}
use Rattle.std.proofs.Math.Nat.{mod-lt}
use Rattle.nav_ground.specs.Limits.{IsSetting}
use Rattle.nav_ground.specs.Tiling.{tiles_in_row, tile_rows, tile_count, tile_window}
use Rattle.nav_ground.proofs.Places.{some_columns, row_is}
use Rattle.mesh_types.specs.declared.mesh.Mesh.{Mesh}
use Rattle.mesh_types.specs.declared.storeys.MeshPlace.{MeshPlace}
use Rattle.mesh_types.specs.Places.{Stands}
use Rattle.mesh_types.specs.Soundness.{IsSound}
use Rattle.mesh_types.proofs.HeldPoints.{held_in_square}
use Rattle.mesh_types.proofs.MeshPolygons.{placed}
use Rattle.mesh_locate.specs.Places.{Reaches}
use Rattle.mesh_place.specs.declared.near.Near.{Near}
use Rattle.mesh_place.specs.declared.tiles.TilesAround.{TilesAround}
use Rattle.mesh_place.specs.Columns.{reach_ends}
use Rattle.mesh_place.specs.Tiles.{AreWithin, AreTilesAround, IsInTileRow}
use Rattle.mesh_place.proofs.Squares.{within, size_bounds, clamp_most, clamp_least}

-- ---- the tiles along one axis that have a coordinate

pub from_first : (side place at : ℕ) → 1 ≤ side → at ≤ side * (place + 1) → (at - 1) / side ≤ place
from_first side place at some ends =
    let product : 1 * 1 ≤ side * (place + 1) = mul-le 1 1 side (place + 1) some (omega arith) in
    omega (arith, div_below (at - 1) side (place + 1) (omega (arith, some)) (omega (arith, ends, product)))

pub before_end : (side place at : ℕ) → 1 ≤ side → side * place ≤ at → place < at / side + 1
before_end side place at some begins = omega (arith, le-div place at side some (omega (arith, begins)))

-- ---- the tile of a place

-- a tile is there, and its column and its row reach a point that one of its polygons holds
pub record IsTileOf (mesh : Mesh) (place : MeshPlace) : Type 0 where
  pub there : place.polygon.tile < tile_count mesh.setting
  pub column : place.polygon.tile % tiles_in_row mesh.setting < tiles_in_row mesh.setting
  pub row : place.polygon.tile / tiles_in_row mesh.setting < tile_rows mesh.setting
  pub across : Reaches (16 * mesh.setting.tile) (place.polygon.tile % tiles_in_row mesh.setting) place.point.x
  pub along : Reaches (16 * mesh.setting.tile) (place.polygon.tile / tiles_in_row mesh.setting) place.point.z

one_axis : (place tile edge : ℕ) (at : ℤ) → 4 ≤ tile → (pos 16 *ℤ pos (place * tile)) ≤ℤ at
    → at ≤ℤ (pos 16 *ℤ (pos (min edge (place * tile + tile) - 1) +ℤ pos 1)) → Reaches (16 * tile) place at
one_axis place tile edge at some low high = record {
  begins = omega (arith, ints, low);
  ends = omega (arith, ints, high, some);
}

pub tile_of : (mesh : Mesh) (place : MeshPlace) → IsSound mesh → IsSetting mesh.setting → Stands mesh place → IsTileOf mesh place
tile_of mesh place sound setting stands =
    let at = place.polygon in
    let where_it_stands = placed mesh at stands.held.polygon sound stands.held.there in
    let there : at.tile < tile_count mesh.setting = subst (λ (n : ℕ). at.tile < n) sound.tiles.each where_it_stands.tile_rules.within in
    let some : 0 < tiles_in_row mesh.setting = some_columns (tiles_in_row mesh.setting) (tile_rows mesh.setting) at.tile there in
    let square = held_in_square (tile_window mesh.setting at.tile) stands.held.polygon place.point where_it_stands.rules.convex where_it_stands.square stands.held.holds in
    record {
      there = there;
      column = mod-lt at.tile some;
      row = row_is at.tile (tiles_in_row mesh.setting) (tile_rows mesh.setting) some there;
      across = one_axis (at.tile % tiles_in_row mesh.setting) mesh.setting.tile mesh.setting.width place.point.x setting.tile_least square.left square.right;
      along = one_axis (at.tile / tiles_in_row mesh.setting) mesh.setting.tile mesh.setting.depth place.point.z setting.tile_least square.bottom square.top;
    }

-- a coordinate within reach, on a tile's side
record IsOnSide (side place reach : ℕ) (p : ℤ) : Type 0 where
  pub m : ℕ
  pub within : AreWithin (reach_ends p reach) side place m

on_side : (side place reach : ℕ) (p q : ℤ) → unsigned_abs (q -ℤ p) ≤ reach → Reaches side place q → IsOnSide side place reach p
on_side side place reach p (negsuc k) near is = absurd (omega (arith, ints, is.begins))
on_side side place reach p (pos m) near is =
    let bounds = size_bounds (pos m -ℤ p) reach near in
    record {
      m = m;
      within = record {
        low = clamp_most (p -ℤ pos reach) m (omega (arith, ints, bounds.0));
        high = clamp_least (p +ℤ pos reach) m (omega (arith, ints, bounds.1));
        begins = omega (arith, ints, is.begins);
        ends = omega (arith, ints, is.ends);
      };
    }

-- the rows and the columns of tiles within reach
module _ (mesh : Mesh) (asked : Near) (around : TilesAround) (along across : ℕ) (sound : IsSound mesh) (setting : IsSetting mesh.setting)
    (depth : along ≡ tile_rows mesh.setting) (width : across ≡ tiles_in_row mesh.setting) where
  abbrev side : ℕ
  side = 16 * mesh.setting.tile

  pub are_around : around.rows.first ≤ around.rows.end → around.rows.end ≤ along → around.columns.first ≤ around.columns.end → around.columns.end ≤ across
      → ((place m : ℕ) → place < along → AreWithin (reach_ends asked.point.z around.reach) side place m → around.rows.first ≤ place)
      → ((place m : ℕ) → place < along → AreWithin (reach_ends asked.point.z around.reach) side place m → place < around.rows.end)
      → ((place m : ℕ) → place < across → AreWithin (reach_ends asked.point.x around.reach) side place m → around.columns.first ≤ place)
      → ((place m : ℕ) → place < across → AreWithin (reach_ends asked.point.x around.reach) side place m → place < around.columns.end)
      → AreTilesAround mesh asked around
  are_around order inside order' inside' first before first' before' = record {
    rows_order = order;
    rows_inside = omega (arith, inside, depth);
    columns_order = order';
    columns_inside = omega (arith, inside', width);
    rows = λ other stands near.
        let tile = tile_of mesh other sound setting stands in
        let on = on_side side (other.polygon.tile / tiles_in_row mesh.setting) around.reach asked.point.z other.point.z
        (within asked.point other.point around.reach near).along tile.along in
        let there : other.polygon.tile / tiles_in_row mesh.setting < along = omega (arith, depth, tile.row) in
        record { first = first _ on.m there on.within; end = before _ on.m there on.within };
    columns = λ other stands near.
        let tile = tile_of mesh other sound setting stands in
        let on = on_side side (other.polygon.tile % tiles_in_row mesh.setting) around.reach asked.point.x other.point.x
        (within asked.point other.point around.reach near).across tile.across in
        let there : other.polygon.tile % tiles_in_row mesh.setting < across = omega (arith, width, tile.column) in
        record { first = first' _ on.m there on.within; end = before' _ on.m there on.within };
  }

-- one more column of a row
pub next_column_of : (mesh : Mesh) (row column tile : ℕ) (other : MeshPlace) → tile ≡ row * tiles_in_row mesh.setting + column
    → IsInTileRow mesh row (column + 1) other → IsInTileRow mesh row column other ⊎ (other.polygon.tile ≡ tile)
next_column_of mesh row column tile other is one =
    let n : ℕ = tiles_in_row mesh.setting in
    elim (cases_lt (other.polygon.tile % n) column) [
      | inl less ↦ inl (record { row_is = one.row_is; before = less })
      | inr least ↦
          let before = one.before in
          let column_is : other.polygon.tile % n ≡ column = omega (arith, before, least) in
          let row_is = one.row_is in
          inr (sym (div-add-mod' other.polygon.tile n) ∙ (λ i. row_is i * n + column_is i) ∙ sym is)
    ]

-- one more row
pub next_tile_row : (n row tile : ℕ) → tile / n < row + 1 → (tile / n < row) ⊎ (tile / n ≡ row)
next_tile_row n row tile below = elim (cases_lt (tile / n) row) [ inl less ↦ inl less | inr least ↦ inr (omega (arith, below, least)) ]
