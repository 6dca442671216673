use Rattle.std.proofs.Common.{◌≡◌, length, ap, ◌∙◌, arith, rules}
use Rattle.std.specs.Prelude.{slice_get, Some}
use Rattle.mesh_types.specs.declared.mesh.TileMesh.{TileMesh}
use Rattle.crowd_filter.proofs.PlacingLaws.{few_in, index_there}
use Rattle.crowd_filter.proofs.tiles.polygons_in.Goals as goal

pub overflow_cast-result : goal.overflow_cast-result
overflow_cast-result c =
    let there : slice_get c.args.mesh.now.tiles c.args.tile ≡ Some c.in-Some.tile.now = search rules in
    let many : c.len.result ≡ length c.in-Some.tile.now.polys = c.len.ensures ∙ ap (λ (d : TileMesh). length d.polys) c.get-in-Some.ensures in
    omega (arith, many, few_in c.args.mesh.now c.args.tile c.in-Some.tile.now c.requires there)

pub returns-in-Some : goal.returns-in-Some
returns-in-Some c = λ other polygon at named.
    let there : slice_get c.args.mesh.now.tiles c.args.tile ≡ Some c.in-Some.tile.now = search rules in
    let many : c.len.result ≡ length c.in-Some.tile.now.polys = c.len.ensures ∙ ap (λ (d : TileMesh). length d.polys) c.get-in-Some.ensures in
    omega (arith, many, index_there c.args.mesh.now c.args.tile c.in-Some.tile.now other polygon there at named)
