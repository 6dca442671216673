use Rattle.std.proofs.Common.{◌++◌, List, map, length, ap, ◌∙◌, arith}
use Rattle.std.proofs.lemmas.List.{take_all, length-map}
use Rattle.nav_ground.specs.declared.cell.Cell.{Cell}
use Rattle.mesh_types.specs.declared.region.LabelRun.{LabelRun}
use Rattle.mesh_types.specs.Runs.{runs_of, label_if}
use Rattle.mesh_types.specs.Crossings.{is_crossing}
use Rattle.mesh_types.specs.StripRim.{rim_edge}
use Rattle.mesh_types.specs.StripLinks.{outside_of}
use Rattle.strip_mesh.specs.Indexed.{run_in}
use Rattle.strip_mesh.proofs.Parts.{own_few, part_inside}
use Rattle.strip_mesh.proofs.Steps.{one_more_after}
use Rattle.strip_mesh.proofs.rim.push_rim_along.Goals as goal

pub runs-requires : goal.runs-requires
runs-requires c =
    let strips = c.args.of.strips.now in
    let crossing = λ (cell : Cell). label_if (is_crossing c.args.of.window.now (outside_of c.args.edge) cell) in
    omega (
      arith,
      ap length (c.as_slice.ensures.value ∙ c.in_ok-label_crossing.ensures),
      length-map (run_in strips c.args.of.strip) crossing,
      own_few strips c.requires.rules c.args.of.strip c.requires.there,
    )

pub rim_edge-requires : goal.rim_edge-requires
rim_edge-requires c =
    let strips = c.args.of.strips.now in
    let own = run_in strips c.args.of.strip in
    let inside = part_inside (λ (cell : Cell). label_if (is_crossing c.args.of.window.now (outside_of c.args.edge) cell)) own c.as_slice.result.now c.as_slice-parts.result.now
    (c.as_slice.ensures.value ∙ c.in_ok-label_crossing.ensures) (c.as_slice-parts.ensures.value ∙ c.in_ok-parts.ensures)
    c.loop-part.part-index (record { first = 0; last = 0; label = 0 }) c.loop-part-test.true in
    record {
      rules = c.requires.rules;
      there = c.requires.there;
      edge = c.requires.edge;
      order = inside.0;
      inside = inside.1;
    }

pub loop-part-preserved : goal.loop-part-preserved
loop-part-preserved c =
    one_more_after (rim_edge c.args.of.strip c.args.edge (run_in c.args.of.strips.now c.args.of.strip)) c.as_slice-parts.result.now
    c.loop-part.part-index (record { first = 0; last = 0; label = 0 }) c.args.rim.now.items c.loop-part.rim.items c.push.new.self.items c.in_ok-rim_edge.field-0
    c.loop-part-test.true c.loop-part.invariant c.in_ok-push.ensures.items c.in_ok-rim_edge.ensures

pub returns : goal.returns
returns c =
    let strips = c.args.of.strips.now in
    c.loop-part.invariant
    ∙ ap (λ (parts : List LabelRun). c.args.rim.now.items ++ map (rim_edge c.args.of.strip c.args.edge (run_in strips c.args.of.strip)) parts)
    (take_all c.loop-part.part-index c.as_slice-parts.result.now c.loop-part-test.false
    ∙ c.as_slice-parts.ensures.value ∙ c.in_ok-parts.ensures ∙ ap runs_of (c.as_slice.ensures.value ∙ c.in_ok-label_crossing.ensures))
