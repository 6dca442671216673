use Rattle.std.proofs.Common.{◌≡◌, length, refl, sym, ap, ◌∙◌}
use Rattle.std.specs.Prelude.{Some, slice_get}
use Rattle.std.proofs.lemmas.Option.{slice_get_read}
use Rattle.mesh_types.specs.declared.storeys.MeshPlace.{MeshPlace}
use Rattle.mesh_types.proofs.MeshPolygons.{tile_at}
use Rattle.mesh_place.proofs.SearchLaws.{passed}
use Rattle.mesh_place.proofs.scan.likely_first.Goals as goal

pub likely_polygon-index-requires-clause-polygons : goal.likely_polygon-index-requires-clause-polygons
likely_polygon-index-requires-clause-polygons c =
    let mesh = c.args.mesh.now in
    let tile = c.get-here.result.now in
    let there : slice_get mesh.tiles c.args.tile ≡ Some tile =
    slice_get_read mesh.tiles (length mesh.tiles) c.args.tile c.at.result.now refl c.requires.there c.at.ensures ∙ ap Some (sym c.get-here.ensures) in
    (tile_at mesh c.args.tile tile c.requires.sound there).fit.polys

pub returns-then-index-len : goal.returns-then-index-len
returns-then-index-len c =
    passed c.args.mesh.now c.args.asked.now c.args.best (λ (other : MeshPlace). ⊥) c.requires.best (λ other stands near one. one)

pub in_polygon-requires-clause-tile : goal.in_polygon-requires-clause-tile
in_polygon-requires-clause-tile c =
    let mesh = c.args.mesh.now in
    slice_get_read mesh.tiles (length mesh.tiles) c.args.tile c.at.result.now refl c.requires.there c.at.ensures ∙ ap Some (sym c.get-here.ensures)

pub returns : goal.returns
returns c = c.in_polygon.ensures
