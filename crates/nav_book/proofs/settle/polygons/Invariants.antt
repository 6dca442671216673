use Rattle.std.proofs.Common.{◌≡◌, length, take}
use Rattle.std.specs.List.{sum_by}
use Rattle.mesh_types.specs.declared.mesh.TileMesh.{TileMesh}
use Rattle.nav_book.proofs.settle.polygons.Given as goal

-- those of the tiles so far
abbrev pub invariant-loop-place : goal.invariant-loop-place
invariant-loop-place l = l.count ≡ sum_by (λ (tile : TileMesh). length tile.polys) (take l.place l.tiles)
