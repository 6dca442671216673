use Rattle.std.proofs.Common.{◌≡◌, take, map}
use Rattle.mesh_types.specs.WholeMesh.{cross_links}
use Rattle.tile_links.proofs.join.all_cross_links.Given as goal

-- the links that leave the tiles so far
abbrev pub invariant-loop-place : goal.invariant-loop-place
invariant-loop-place l = l.cross.items ≡ map (cross_links l.setting l.tiles) (take l.place l.tiles)
