use Rattle.std.proofs.Common.{◌∙◌, ◌++◌, ◌∷◌, [], map, filter, ap, arith}
use Rattle.std.specs.Prelude.{if◌then◌else◌}
use Rattle.std.specs.List.{range_with_len}
use Rattle.mesh_types.specs.Crossings.{is_crossing}
use Rattle.contour_mesh.specs.SidePlaces.{cell_at_side}
use Rattle.contour_mesh.proofs.Steps.{one_more_kept}
use Rattle.contour_mesh.proofs.crossings.push_crossings.Goals as goal

pub loop-side-preserved : goal.loop-side-preserved
loop-side-preserved c =
    one_more_kept (cell_at_side c.args.region c.args.cell.now) (λ side. is_crossing c.args.window.now side c.args.cell.now) c.loop-side.side c.args.placed.now.items
    c.loop-side.placed.items c.push_crossing.new.placed.items c.loop-side.invariant
    (c.in_ok-push_crossing.ensures
    ∙ ap (λ side. c.loop-side.placed.items
    ++ (if is_crossing c.args.window.now side c.args.cell.now then cell_at_side c.args.region c.args.cell.now side ∷ [] else [])) c.of.ensures)

pub returns : goal.returns
returns c =
    c.loop-side.invariant
    ∙ ap (λ n. c.args.placed.now.items
    ++ map (cell_at_side c.args.region c.args.cell.now) (filter (λ side. is_crossing c.args.window.now side c.args.cell.now) (range_with_len 0 n)))
    {x = c.loop-side.side} {y = 4} (omega (arith, c.loop-side-test.false, c.loop-side.auto.side-end))
