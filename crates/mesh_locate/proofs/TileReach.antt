-- A polygon that holds a point stands in a tile whose closed square reaches the point.
use Rattle.std.proofs.Common.{ℕ, ◌+◌, ◌-◌, ◌*◌, ◌/◌, ◌%◌, ◌≤◌, ◌<◌, ℤ, pos, ◌+ℤ◌, ◌*ℤ◌, ◌≤ℤ◌, subst, arith}
use Rattle.std.specs.Prelude.{min}
use Rattle.std.proofs.lemmas.Int.{ints}
use Rattle.std.proofs.lemmas.Nat.{div_below, le-div, mul-le}
use Rattle.std.proofs.Math.Nat.{mod-lt}
use Rattle.nav_base.specs.declared.point.Point.{Point}
use Rattle.nav_ground.specs.Limits.{IsSetting}
use Rattle.nav_ground.specs.Tiling.{tiles_in_row, tile_rows, tile_count, tile_window}
use Rattle.nav_ground.proofs.Places.{some_columns, row_is}
use Rattle.mesh_types.specs.declared.links.PolyRef.{PolyRef}
use Rattle.mesh_types.specs.declared.mesh.Mesh.{Mesh}
use Rattle.mesh_types.specs.Located.{HoldsAt}
use Rattle.mesh_types.specs.Soundness.{IsSound}
use Rattle.mesh_types.proofs.HeldPoints.{held_in_square}
use Rattle.mesh_types.proofs.MeshPolygons.{placed}
use Rattle.mesh_locate.specs.Places.{Reaches}

-- the tile is there, and its column and its row reach the point
pub record IsReached (mesh : Mesh) (p : Point) (tile : ℕ) : Type 0 where
  pub there : tile < tile_count mesh.setting
  pub column : tile % tiles_in_row mesh.setting < tiles_in_row mesh.setting
  pub row : tile / tiles_in_row mesh.setting < tile_rows mesh.setting
  pub across : Reaches (16 * mesh.setting.tile) (tile % tiles_in_row mesh.setting) p.x
  pub along : Reaches (16 * mesh.setting.tile) (tile / tiles_in_row mesh.setting) p.z

-- one axis: a window of the tile's columns, in sixteenths
one_axis : (place tile edge : ℕ) (at : ℤ) → 4 ≤ tile → (pos 16 *ℤ pos (place * tile)) ≤ℤ at
    → at ≤ℤ (pos 16 *ℤ (pos (min edge (place * tile + tile) - 1) +ℤ pos 1)) → Reaches (16 * tile) place at
one_axis place tile edge at some low high = record {
  begins = omega (arith, ints, low);
  ends = omega (arith, ints, high, some);
}

pub held_in_tile : (mesh : Mesh) (p : Point) (y : ℕ) (at : PolyRef) → IsSound mesh → IsSetting mesh.setting → HoldsAt mesh p y at → IsReached mesh p at.tile
held_in_tile mesh p y at sound setting held =
    let where_it_stands = placed mesh at held.polygon sound held.there in
    let there : at.tile < tile_count mesh.setting = subst (λ (n : ℕ). at.tile < n) sound.tiles.each where_it_stands.tile_rules.within in
    let some : 0 < tiles_in_row mesh.setting = some_columns (tiles_in_row mesh.setting) (tile_rows mesh.setting) at.tile there in
    let square = held_in_square (tile_window mesh.setting at.tile) held.polygon p where_it_stands.rules.convex where_it_stands.square held.holds in
    record {
      there = there;
      column = mod-lt at.tile some;
      row = row_is at.tile (tiles_in_row mesh.setting) (tile_rows mesh.setting) some there;
      across = one_axis (at.tile % tiles_in_row mesh.setting) mesh.setting.tile mesh.setting.width p.x setting.tile_least square.left square.right;
      along = one_axis (at.tile / tiles_in_row mesh.setting) mesh.setting.tile mesh.setting.depth p.z setting.tile_least square.bottom square.top;
    }

-- ---- the places that reach a coordinate

pub from_first : (side place at : ℕ) → 1 ≤ side → at ≤ side * (place + 1) → (at - 1) / side ≤ place
from_first side place at some ends =
    let product : 1 * 1 ≤ side * (place + 1) = mul-le 1 1 side (place + 1) some (omega arith) in
    omega (arith, div_below (at - 1) side (place + 1) (omega (arith, some)) (omega (arith, ends, product)))

pub before_end : (side place at : ℕ) → 1 ≤ side → side * place ≤ at → place < at / side + 1
before_end side place at some begins = omega (arith, le-div place at side some (omega (arith, begins)))
