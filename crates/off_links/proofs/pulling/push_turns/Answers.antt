use Rattle.std.proofs.Common.{◌+◌, ◌<◌, ◌++◌, List, All, map, ap, sym, subst, ◌∙◌}
use Rattle.std.proofs.lemmas.Result.{on_ok_weaker}
use Rattle.mesh_types.specs.declared.answers.Corner.{Corner}
use Rattle.mesh_types.specs.Stretches.{counted_from}
use Rattle.off_links.proofs.Stretches.{counted_few}
use Rattle.off_links.proofs.pulling.push_turns.Goals as goal

pub push_counted-requires : goal.push_counted-requires
push_counted-requires c =
    subst (λ (corners : List Corner). All (λ (corner : Corner). corner.portal + c.args.first < 8000000) corners) (sym c.as_slice.ensures.value)
    (counted_few c.args.ends.0 c.args.portals.now c.args.ends.1 c.args.first c.in_ok-corners.corners.items c.requires.few c.in_ok-corners.ensures)

pub returns : goal.returns
returns c =
    on_ok_weaker c.push_counted.result
    (λ next. record {
      own = c.in_ok-corners.corners.items;
      taut = c.in_ok-corners.ensures;
      appended = next ∙ ap (λ (corners : List Corner). c.args.turns.now.items ++ map (counted_from c.args.first) corners) c.as_slice.ensures.value;
    }) c.push_counted.ensures
