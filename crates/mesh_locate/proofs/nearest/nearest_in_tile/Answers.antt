use Rattle.std.proofs.Common.{◌≡◌, ℕ, length, refl, sym, ap, ◌∙◌, subst, arith}
use Rattle.std.specs.Prelude.{All, slice_get, option_and_then}
use Rattle.std.proofs.lemmas.Option.{slice_get_read}
use Rattle.mesh_types.specs.declared.mesh.TileMesh.{TileMesh}
use Rattle.mesh_types.specs.FitTiles.{IsPolygon}
use Rattle.mesh_locate.specs.Nearest.{IsNearestBefore}
use Rattle.mesh_locate.proofs.Scans.{its_polygons, tile_done}
use Rattle.mesh_locate.proofs.nearest.nearest_in_tile.Goals as goal

pub nearer_at-nearest-requires-clause-listed : goal.nearer_at-nearest-requires-clause-listed
nearer_at-nearest-requires-clause-listed c =
    let mesh = c.args.mesh.now in
    let tile = c.at.result.now in
    let is = c.at.ensures in
    let there = slice_get_read mesh.tiles (length mesh.tiles) c.args.tile tile refl c.requires.there is in
    ap (option_and_then (λ (d : TileMesh). slice_get d.polys c.loop-i.i)) there ∙ ap (λ (d : TileMesh). slice_get d.polys c.loop-i.i) (sym c.get.ensures)

pub nearer_at-nearest-requires-clause-polygons : goal.nearer_at-nearest-requires-clause-polygons
nearer_at-nearest-requires-clause-polygons c =
    let mesh = c.args.mesh.now in
    let tile = c.at.result.now in
    let is = c.at.ensures in
    let there = slice_get_read mesh.tiles (length mesh.tiles) c.args.tile tile refl c.requires.there is in
    subst (λ (d : TileMesh). All IsPolygon d.polys) (sym c.get.ensures) (its_polygons mesh c.args.tile tile c.requires.sound there)

pub returns : goal.returns
returns c =
    let mesh = c.args.mesh.now in
    let tile = c.at.result.now in
    let is = c.at.ensures in
    let there = slice_get_read mesh.tiles (length mesh.tiles) c.args.tile tile refl c.requires.there is in
    let polys = c.len-i-end.ensures ∙ ap (λ (d : TileMesh). length d.polys) c.get.ensures in
    let last : c.loop-i.i ≡ length tile.polys = omega (arith, c.loop-i-test.false, c.loop-i.auto.i-end, polys) in
    tile_done mesh c.args.sought.p c.args.sought.y c.args.tile tile c.loop-i.nearest there
    (subst (λ (n : ℕ). IsNearestBefore mesh c.args.sought.p c.args.sought.y c.args.tile n c.loop-i.nearest) last c.loop-i.invariant)
