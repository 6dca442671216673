use Rattle.std.proofs.Common.{length, refl, sym, subst, ◌∙◌}
use Rattle.std.specs.Prelude.{All}
use Rattle.std.proofs.lemmas.Bool.{iff_false}
use Rattle.std.proofs.lemmas.Option.{slice_get_read}
use Rattle.nav_base.specs.Point.{IsCellCorner}
use Rattle.mesh_types.specs.declared.polygon.Polygon.{Polygon}
use Rattle.mesh_locate.proofs.NearestLaws.{passed_over}
use Rattle.mesh_locate.proofs.Reached.{box_there, not_in_box}
use Rattle.mesh_locate.proofs.polygons.nearer_at.Goals as goal

pub is_in_box-requires-clause-low : goal.is_in_box-requires-clause-low
is_in_box-requires-clause-low c =
    (box_there c.args.polygons.now c.args.at.index c.extent.result c.extent.ensures c.requires.polygons c.requires.there).low

pub is_in_box-requires-clause-high : goal.is_in_box-requires-clause-high
is_in_box-requires-clause-high c =
    (box_there c.args.polygons.now c.args.at.index c.extent.result c.extent.ensures c.requires.polygons c.requires.there).high

pub returns-then-not-is_in_box : goal.returns-then-not-is_in_box
returns-then-not-is_in_box c =
    passed_over c.args.mesh.now c.args.sought.p c.args.sought.y c.args.at c.args.best
    (not_in_box c.args.polygons.now c.args.at.index c.extent.result c.extent.ensures c.requires.polygons c.requires.there c.args.mesh.now c.args.sought.p c.args.sought.y
    c.args.at c.requires.listed (iff_false c.is_in_box.ensures c.if-not-is_in_box.true)) c.requires.best

pub nearer-requires-clause-there : goal.nearer-requires-clause-there
nearer-requires-clause-there c =
    let polygon = c.at.result in
    let is = c.at.ensures polygon in
    c.requires.listed ∙ slice_get_read c.args.polygons.now (length c.args.polygons.now) c.args.at.index polygon refl c.requires.there is

pub nearer-requires-clause-corners : goal.nearer-requires-clause-corners
nearer-requires-clause-corners c =
    let polygon = c.at.result in
    let is = c.at.ensures polygon in
    subst (λ (d : Polygon). All IsCellCorner d.corners) (sym is) (c.requires.polygons c.args.at.index polygon c.requires.there).corners
