use Rattle.std.proofs.Common.{◌≡◌, ◌<◌, ◌∙◌, [], ◌∷◌, ◌++◌, List, length, map, ap, arith, subst, sym}
use Rattle.std.proofs.lemmas.List.{map_more, take_all}
use Rattle.nav_ground.specs.declared.cell.Cell.{Cell}
use Rattle.nav_ground.specs.Cells.{IsCells}
use Rattle.mesh_types.specs.Storeys.{strip_storey}
use Rattle.mono_regions.specs.Indices.{cell_at, AreIndices}
use Rattle.strip_mesh.specs.Indexed.{runs_in}
use Rattle.strip_mesh.proofs.storeys.storey_list.Goals as goal

pub strip_storey-requires-clause-cells : goal.strip_storey-requires-clause-cells
strip_storey-requires-clause-cells c = subst IsCells (sym c.as_slice-cells.ensures) c.requires.cut.rules

pub strip_storey-requires-clause-run : goal.strip_storey-requires-clause-run
strip_storey-requires-clause-run c =
    subst (λ (cells : List Cell). AreIndices cells c.run.result.now) (sym c.as_slice-cells.ensures) c.run.ensures.indices

pub loop-strip-preserved : goal.loop-strip-preserved
loop-strip-preserved c =
    let runs = runs_in c.args.strips.now in
    let there : c.loop-strip.strip < length runs = omega (arith, c.loop-strip-test.true, c.count-count.ensures.value) in
    let made = c.in_ok-strip_storey.ensures ∙ ap (λ (cells : List Cell). strip_storey (map (cell_at cells) c.run.result.now)) c.as_slice-cells.ensures
    ∙ ap strip_storey c.run.ensures.cells in
    c.in_ok-push.ensures.items ∙ (λ i. c.loop-strip.invariant i ++ made i ∷ []) ∙ sym (map_more strip_storey runs c.loop-strip.strip [] there)

pub returns : goal.returns
returns c =
    let runs = runs_in c.args.strips.now in
    c.from_vec.ensures ∙ c.loop-strip.invariant
    ∙ ap (map strip_storey) (take_all c.loop-strip.strip runs (omega (arith, c.loop-strip-test.false, c.count-count.ensures.value)))
