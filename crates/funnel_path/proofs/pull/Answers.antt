-- One more corner keeps the path pulled, and once the goal is seen it is taut.
use Rattle.std.proofs.Common.{◌+◌, List, sym, subst}
use Rattle.mesh_types.specs.declared.answers.Corner.{Corner}
use Rattle.mesh_types.specs.Chains.{IsBehind, portal_at}
use Rattle.funnel_path.proofs.NextLaws.{end_behind, named_coordinates, next_step}
use Rattle.funnel_path.proofs.PullLaws.{IsPulled, pulled_more, pulled_taut}
use Rattle.funnel_path.proofs.pull.Goals as goal

pub loop-corner-preserved : goal.loop-corner-preserved
loop-corner-preserved c =
    let start = c.args.start in
    let portals = c.args.portals.now in
    let corner = c.in-Some.corner in
    let step = next_step start portals c.args.goal c.loop-corner.apex c.loop-corner.first corner c.requires.chain c.in-Some.ensures in
    record {
      pulled = subst (λ (corners : List Corner). IsPulled start portals c.args.goal corners corner.at (corner.portal + 1)) (sym c.in_ok-push.ensures.items)
          (pulled_more start portals c.args.goal c.loop-corner.corners.items c.loop-corner.apex c.loop-corner.first corner c.requires.chain c.loop-corner.invariant.pulled c.in-Some.ensures);
      behind = λ there. subst (IsBehind (portal_at portals (corner.portal + 1))) (sym step.named.at_end) (end_behind start portals c.args.goal corner.portal corner.side c.requires.chain there);
      coordinates = named_coordinates portals corner step.named c.requires.coordinates.at_ends;
    }

pub returns : goal.returns
returns c =
    pulled_taut c.args.start c.args.portals.now c.args.goal c.loop-corner.corners.items c.loop-corner.apex c.loop-corner.first c.requires.chain c.loop-corner.invariant.pulled c.in_default.ensures
