use Rattle.std.proofs.Common.{List, sym, subst, arith}
use Rattle.std.proofs.lemmas.Bool.{iff_false}
use Rattle.mesh_types.specs.declared.links.Link.{Link}
use Rattle.mesh_types.specs.Corridors.{WalksTo}
use Rattle.mesh_types.specs.Right.{portals_of}
use Rattle.mesh_types.specs.Taut.{IsTaut}
use Rattle.kept_paths.specs.KeptPaths.{LeadOn}
use Rattle.kept_paths.proofs.LeadLaws.{lead-allowed, lead-walks}
use Rattle.kept_paths.proofs.PathParts.{pulled}
use Rattle.kept_paths.proofs.checks.check_from.Goals as goal
use Rattle.kept_paths.proofs.checks.check_from.Goals.{else-whole-via-then-whole+else-holds_at, else-whole-via-else-whole}

pub turns-requires-clause-chain : goal.turns-requires-clause-chain
turns-requires-clause-chain c =
    let path = c.args.path.now in
    let lead = c.in_ok-lead.lead in
    let on = subst (λ (kept : List Link). LeadOn c.args.mesh.now path.filter.areas c.args.first kept lead.links lead.last) c.as_slice.ensures c.in_ok-lead.ensures.leads in
    let walks = subst (λ (ls : List Link). WalksTo c.args.mesh.now c.args.first ls lead.last) (sym c.as_slice-then-holds_at.ensures)
    (lead-walks c.args.mesh.now path.filter.areas c.args.first path.links lead.links lead.last on) in
    (pulled c.args.mesh.now path.from path.from_y path.goal path.goal_y c.args.first lead.last c.as_slice-then-holds_at.result.now c.requires.sound
    c.requires.path.from c.requires.path.goal c.requires.first.begins.holding (c.holds_at.ensures.0 c.if-holds_at.true) walks).chain

pub turns-requires-clause-coordinates : goal.turns-requires-clause-coordinates
turns-requires-clause-coordinates c =
    let path = c.args.path.now in
    let lead = c.in_ok-lead.lead in
    let on = subst (λ (kept : List Link). LeadOn c.args.mesh.now path.filter.areas c.args.first kept lead.links lead.last) c.as_slice.ensures c.in_ok-lead.ensures.leads in
    let walks = subst (λ (ls : List Link). WalksTo c.args.mesh.now c.args.first ls lead.last) (sym c.as_slice-then-holds_at.ensures)
    (lead-walks c.args.mesh.now path.filter.areas c.args.first path.links lead.links lead.last on) in
    (pulled c.args.mesh.now path.from path.from_y path.goal path.goal_y c.args.first lead.last c.as_slice-then-holds_at.result.now c.requires.sound
    c.requires.path.from c.requires.path.goal c.requires.first.begins.holding (c.holds_at.ensures.0 c.if-holds_at.true) walks).coordinates

pub returns-then-holds_at : goal.returns-then-holds_at
returns-then-holds_at c =
    let path = c.args.path.now in
    let lead = c.in_ok-lead.lead in
    let on = subst (λ (kept : List Link). LeadOn c.args.mesh.now path.filter.areas c.args.first kept lead.links lead.last) c.as_slice.ensures c.in_ok-lead.ensures.leads in
    record {
      begins = c.requires.first;
      last = lead.last;
      leads = on;
      all = omega (arith, c.if-whole.true, c.len.ensures, c.len-2.ensures);
      goal = c.holds_at.ensures.0 c.if-holds_at.true;
      allowed = lead-allowed c.args.mesh.now path.filter.areas c.args.first path.links lead.links lead.last on;
      costs = c.in_ok-lead.ensures.cost;
      taut = subst (λ (ls : List Link). IsTaut path.from (portals_of ls) path.goal c.in_ok-turns.turns) c.as_slice-then-holds_at.ensures c.in_ok-turns.ensures;
    }

pub returns : goal.returns
returns c =
    let path = c.args.path.now in
    let lead = c.in_ok-lead.lead in
    let on = subst (λ (kept : List Link). LeadOn c.args.mesh.now path.filter.areas c.args.first kept lead.links lead.last) c.as_slice.ensures c.in_ok-lead.ensures.leads in
    record {
      begins = c.requires.first;
      last = lead.last;
      leads = on;
      short = λ all goal.
          elim c.else-whole.branch [
            | else-whole-via-then-whole+else-holds_at w ↦ iff_false w.holds_at.ensures w.if-holds_at.false goal
            | else-whole-via-else-whole w ↦ absurd (omega (arith, w.if-whole.false, all, c.len.ensures, c.len-2.ensures))
          ];
      allowed = lead-allowed c.args.mesh.now path.filter.areas c.args.first path.links lead.links lead.last on;
      costs = c.in_ok-lead.ensures.cost;
    }
