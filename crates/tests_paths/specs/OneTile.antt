-- Tile meshes with the numbers of their tiles.
use Rattle.std.specs.Prelude.{List, map}
use Rattle.mesh_types.specs.declared.mesh.TileMesh.{TileMesh}
use Rattle.tile_links.specs.NewTiles.{New}

abbrev pub numbered_tiles : List TileMesh → List New
numbered_tiles tiles = map (λ (tile : TileMesh). (tile.tile, tile)) tiles
