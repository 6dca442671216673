-- A polygon that holds a point stands in a tile whose closed square reaches the point.
use Rattle.std.proofs.Common.{ℕ, ◌+◌, ◌-◌, ◌*◌, ◌≤◌, ℤ, pos, ◌+ℤ◌, ◌*ℤ◌, ◌≤ℤ◌, arith}
use Rattle.std.specs.Prelude.{min}
use Rattle.std.proofs.lemmas.Int.{ints}
use Rattle.nav_base.specs.declared.point.Point.{Point}
use Rattle.nav_ground.specs.Limits.{IsSetting}
use Rattle.nav_ground.specs.Tiling.{tile_window}
use Rattle.mesh_types.specs.declared.links.PolyRef.{PolyRef}
use Rattle.mesh_types.specs.declared.mesh.Mesh.{Mesh}
use Rattle.mesh_types.specs.Located.{HoldsAt}
use Rattle.mesh_types.specs.Soundness.{IsSound}
use Rattle.mesh_types.proofs.HeldPoints.{held_in_square}
use Rattle.mesh_types.proofs.MeshPolygons.{placed}
use Rattle.mesh_locate.specs.Places.{Reaches}
use Rattle.kept_paths.specs.Beginnings.{IsReached}

-- one axis: a window of the tile's columns, in sixteenths
one-axis : (place tile edge : ℕ) (at : ℤ) → 4 ≤ tile → (pos 16 *ℤ pos (place * tile)) ≤ℤ at
    → at ≤ℤ (pos 16 *ℤ (pos (min edge (place * tile + tile) - 1) +ℤ pos 1)) → Reaches (16 * tile) place at
one-axis place tile edge at some low high = record {
  begins = omega (arith, ints, low);
  ends = omega (arith, ints, high, some);
}

pub held-reached : (mesh : Mesh) (p : Point) (y : ℕ) (at : PolyRef) → IsSound mesh → IsSetting mesh.setting → HoldsAt mesh p y at
    → IsReached mesh.setting p at.tile
held-reached mesh p y at sound setting held =
    let stands = placed mesh at held.polygon sound held.there in
    let square = held_in_square (tile_window mesh.setting at.tile) held.polygon p stands.rules.convex stands.square held.holds in
    record {
      across = one-axis _ mesh.setting.tile mesh.setting.width p.x setting.tile_least square.left square.right;
      along = one-axis _ mesh.setting.tile mesh.setting.depth p.z setting.tile_least square.bottom square.top;
    }
