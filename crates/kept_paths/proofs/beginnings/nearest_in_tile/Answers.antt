use Rattle.std.proofs.Common.{◌≡◌, ℕ, length, refl, ap, ◌∙◌, subst, arith}
use Rattle.std.proofs.lemmas.Option.{slice_get_read}
use Rattle.mesh_types.specs.declared.mesh.TileMesh.{TileMesh}
use Rattle.kept_paths.specs.Beginnings.{IsNearestBefore}
use Rattle.kept_paths.proofs.NearestLaws.{tile-done}
use Rattle.kept_paths.proofs.beginnings.nearest_in_tile.Goals as goal

pub returns : goal.returns
returns c =
    let mesh = c.args.mesh.now in
    let tile = c.at.result.now in
    let is = c.at.ensures in
    let there = slice_get_read mesh.tiles (length mesh.tiles) c.args.tile tile refl c.requires.there is in
    let polys = c.len-i-end.ensures ∙ ap (λ (d : TileMesh). length d.polys) c.get.ensures in
    let last : c.loop-i.i ≡ length tile.polys = omega (arith, c.loop-i-test.false, c.loop-i.auto.i-end, polys) in
    tile-done mesh c.args.path.now c.args.tile tile c.loop-i.nearest there
    (subst (λ (n : ℕ). IsNearestBefore mesh c.args.path.now c.args.tile n c.loop-i.nearest) last c.loop-i.invariant)
