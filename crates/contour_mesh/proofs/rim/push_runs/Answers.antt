use Rattle.std.proofs.Common.{◌++◌, List, map, ap, ◌∙◌}
use Rattle.std.proofs.lemmas.List.{take_all}
use Rattle.nav_ground.specs.Directions.{number}
use Rattle.mesh_types.specs.declared.region.LabelRun.{LabelRun}
use Rattle.contour_mesh.specs.RimTables.{entry_in}
use Rattle.contour_mesh.proofs.Steps.{one_more_made}
use Rattle.contour_mesh.proofs.rim.push_runs.Goals as goal

pub entry-requires-clause-run : goal.entry-requires-clause-run
entry-requires-clause-run c = c.requires.runs c.loop-part.part-index (record { first = 0; last = 0; label = 0 }) c.loop-part-test.true

pub loop-part-preserved : goal.loop-part-preserved
loop-part-preserved c =
    one_more_made (entry_in c.args.on.tables.now c.args.on.door.now (number c.args.on.side)) c.args.rim.now.items c.args.parts.now c.loop-part.part-index
    (record { first = 0; last = 0; label = 0 }) c.loop-part.rim.items c.push.new.self.items c.in_ok-entry.field-0 c.loop-part-test.true c.loop-part.invariant
    c.in_ok-push.ensures.items c.in_ok-entry.ensures

pub returns : goal.returns
returns c =
    c.loop-part.invariant
    ∙ ap (λ (parts : List LabelRun). c.args.rim.now.items ++ map (entry_in c.args.on.tables.now c.args.on.door.now (number c.args.on.side)) parts)
    (take_all c.loop-part.part-index c.args.parts.now c.loop-part-test.false)
