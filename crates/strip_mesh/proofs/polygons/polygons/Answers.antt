use Rattle.std.proofs.Common.{◌≡◌, ◌<◌, [], ◌∷◌, ◌++◌, List, length, map, ap, ◌∙◌, sym, subst, arith}
use Rattle.std.proofs.lemmas.List.{map_more, take_all}
use Rattle.std.proofs.lemmas.Result.{IfOk-weaker}
use Rattle.nav_ground.specs.declared.cell.Cell.{Cell}
use Rattle.nav_ground.specs.Cells.{IsCells}
use Rattle.mesh_types.specs.declared.polygon.Polygon.{Polygon}
use Rattle.mesh_types.specs.StripPolygons.{strip_polygon}
use Rattle.mono_regions.specs.Indices.{AreIndices}
use Rattle.strip_mesh.specs.Indexed.{runs_in}
use Rattle.strip_mesh.specs.Strips.{polygon_at}
use Rattle.strip_mesh.proofs.polygons.polygons.Goals as goal

pub polygon-requires-clause-cells : goal.polygon-requires-clause-cells
polygon-requires-clause-cells c = subst IsCells (sym c.as_slice-cells.ensures) c.requires.cut.rules

pub polygon-requires-clause-run : goal.polygon-requires-clause-run
polygon-requires-clause-run c =
    subst (λ (cells : List Cell). AreIndices cells c.run.result.now) (sym c.as_slice-cells.ensures) c.run.ensures.indices

pub loop-strip-preserved : goal.loop-strip-preserved
loop-strip-preserved c =
    let runs = runs_in c.args.strips.now in
    let there : c.loop-strip.strip < length runs = omega (arith, c.loop-strip-test.true, c.count-count.ensures.value) in
    let made = c.polygon.ensures ∙ ap (λ (cells : List Cell). polygon_at cells c.run.result.now) c.as_slice-cells.ensures ∙ ap strip_polygon c.run.ensures.cells in
    c.in_ok-push.ensures.items ∙ (λ i. c.loop-strip.invariant i ++ made i ∷ []) ∙ sym (map_more strip_polygon runs c.loop-strip.strip [] there)

pub returns : goal.returns
returns c =
    let runs = runs_in c.args.strips.now in
    let all : c.loop-strip.polys.items ≡ map strip_polygon runs =
    c.loop-strip.invariant ∙ ap (map strip_polygon) (take_all c.loop-strip.strip runs (omega (arith, c.loop-strip-test.false, c.count-count.ensures.value))) in
    IfOk-weaker c.from_vec.result (λ (polys : List Polygon). polys ≡ c.loop-strip.polys.items) (λ (polys : List Polygon). polys ≡ map strip_polygon runs) (λ polys same. same ∙ all) c.from_vec.ensures
