use Rattle.std.proofs.Common.{List, sym, subst}
use Rattle.std.specs.Prelude.{All}
use Rattle.mesh_types.specs.declared.mesh.TileMesh.{TileMesh}
use Rattle.mesh_types.specs.Passages.{AreTwoWay}
use Rattle.tile_links.specs.NewTiles.{New, tiles_after}
use Rattle.tile_links.proofs.new_tiles.replace.Goals as goal

pub returns-in-Ok-clause-back : goal.returns-in-Ok-clause-back
returns-in-Ok-clause-back c inner =
    let P : List New → Type 0 = λ news. All (λ (tile : TileMesh). AreTwoWay tile.links) (tiles_after news c.args.mesh.now.tiles) in
    c.in-Ok.ensures.back (subst P (sym c.as_slice.ensures.value) inner)
