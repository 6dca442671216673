use Rattle.std.proofs.Common.{ℕ, List, sym, subst, ◌∙◌, arith}
use Rattle.std.proofs.lemmas.List.{length-map}
use Rattle.mesh_types.specs.declared.links.Link.{Link}
use Rattle.kept_paths.specs.Repairs.{IsRepaired}
use Rattle.kept_paths.proofs.PathParts.{pulled}
use Rattle.kept_paths.proofs.RepairLaws.{allowed-all, few-all, goal-held, repaired}
use Rattle.kept_paths.proofs.WalkParts.{walk-all}
use Rattle.kept_paths.proofs.repairs.joined.Goals as goal

pub cost-cost-requires-clause-links : goal.cost-cost-requires-clause-links
cost-cost-requires-clause-links c =
    walk-all c.args.mesh.now c.args.first c.as_slice-links.result.now c.args.last
    (allowed-all c.args.mesh.now c.args.repair.now c.args.first c.args.parts.kept.now c.args.parts.bridge.now c.args.parts.rest.now c.args.last
    c.requires.parts c.as_slice.result.now c.as_slice-links.result.now c.in_ok-onward.onward.taken c.in_ok-onward.onward.dropped c.in_ok-way.way.taken
    c.in_ok-way.way.dropped c.in_ok-onward.ensures.meeting (c.as_slice.ensures.value ∙ c.in_ok-onward.ensures.links) c.in_ok-way.ensures.meeting
    (c.as_slice-links.ensures.value ∙ c.in_ok-way.ensures.links)).walks

pub cost-cost-requires-clause-few : goal.cost-cost-requires-clause-few
cost-cost-requires-clause-few c =
    few-all c.args.mesh.now c.args.repair.now c.args.first c.args.parts.kept.now c.args.parts.bridge.now c.args.parts.rest.now c.args.last
    c.requires.parts c.as_slice.result.now c.as_slice-links.result.now c.in_ok-onward.onward.taken c.in_ok-onward.onward.dropped c.in_ok-way.way.taken
    c.in_ok-way.way.dropped c.in_ok-onward.ensures.meeting (c.as_slice.ensures.value ∙ c.in_ok-onward.ensures.links) c.in_ok-way.ensures.meeting
    (c.as_slice-links.ensures.value ∙ c.in_ok-way.ensures.links) c.requires.few c.requires.repair

pub turns-requires-clause-chain : goal.turns-requires-clause-chain
turns-requires-clause-chain c =
    let path = c.args.repair.now.path in
    let can = c.requires.repair.path in
    let walks = (allowed-all c.args.mesh.now c.args.repair.now c.args.first c.args.parts.kept.now c.args.parts.bridge.now c.args.parts.rest.now c.args.last
    c.requires.parts c.as_slice.result.now c.as_slice-links.result.now c.in_ok-onward.onward.taken c.in_ok-onward.onward.dropped c.in_ok-way.way.taken
    c.in_ok-way.way.dropped c.in_ok-onward.ensures.meeting (c.as_slice.ensures.value ∙ c.in_ok-onward.ensures.links) c.in_ok-way.ensures.meeting
    (c.as_slice-links.ensures.value ∙ c.in_ok-way.ensures.links)).walks in
    let goal = goal-held c.args.mesh.now c.args.repair.now c.args.first c.args.parts.kept.now c.args.parts.bridge.now c.args.parts.rest.now c.args.last
    c.requires.parts c.as_slice.result.now c.as_slice-links.result.now c.in_ok-onward.onward.taken c.in_ok-onward.onward.dropped c.in_ok-way.way.taken
    c.in_ok-way.way.dropped c.in_ok-onward.ensures.meeting (c.as_slice.ensures.value ∙ c.in_ok-onward.ensures.links) c.in_ok-way.ensures.meeting
    (c.as_slice-links.ensures.value ∙ c.in_ok-way.ensures.links) in
    (pulled c.args.mesh.now path.from path.from_y path.goal path.goal_y c.args.first c.args.last c.as_slice-links.result.now c.requires.sound can.from
    can.goal c.requires.parts.keeps.leads_on.begins.begins.holding goal walks).chain

pub turns-requires-clause-coordinates : goal.turns-requires-clause-coordinates
turns-requires-clause-coordinates c =
    let path = c.args.repair.now.path in
    let can = c.requires.repair.path in
    let walks = (allowed-all c.args.mesh.now c.args.repair.now c.args.first c.args.parts.kept.now c.args.parts.bridge.now c.args.parts.rest.now c.args.last
    c.requires.parts c.as_slice.result.now c.as_slice-links.result.now c.in_ok-onward.onward.taken c.in_ok-onward.onward.dropped c.in_ok-way.way.taken
    c.in_ok-way.way.dropped c.in_ok-onward.ensures.meeting (c.as_slice.ensures.value ∙ c.in_ok-onward.ensures.links) c.in_ok-way.ensures.meeting
    (c.as_slice-links.ensures.value ∙ c.in_ok-way.ensures.links)).walks in
    let goal = goal-held c.args.mesh.now c.args.repair.now c.args.first c.args.parts.kept.now c.args.parts.bridge.now c.args.parts.rest.now c.args.last
    c.requires.parts c.as_slice.result.now c.as_slice-links.result.now c.in_ok-onward.onward.taken c.in_ok-onward.onward.dropped c.in_ok-way.way.taken
    c.in_ok-way.way.dropped c.in_ok-onward.ensures.meeting (c.as_slice.ensures.value ∙ c.in_ok-onward.ensures.links) c.in_ok-way.ensures.meeting
    (c.as_slice-links.ensures.value ∙ c.in_ok-way.ensures.links) in
    (pulled c.args.mesh.now path.from path.from_y path.goal path.goal_y c.args.first c.args.last c.as_slice-links.result.now c.requires.sound can.from
    can.goal c.requires.parts.keeps.leads_on.begins.begins.holding goal walks).coordinates

pub turns-requires-clause-few : goal.turns-requires-clause-few
turns-requires-clause-few c =
    omega (
      arith,
      few-all c.args.mesh.now c.args.repair.now c.args.first c.args.parts.kept.now c.args.parts.bridge.now c.args.parts.rest.now c.args.last
          c.requires.parts c.as_slice.result.now c.as_slice-links.result.now c.in_ok-onward.onward.taken c.in_ok-onward.onward.dropped
          c.in_ok-way.way.taken c.in_ok-way.way.dropped c.in_ok-onward.ensures.meeting (c.as_slice.ensures.value ∙ c.in_ok-onward.ensures.links)
          c.in_ok-way.ensures.meeting (c.as_slice-links.ensures.value ∙ c.in_ok-way.ensures.links) c.requires.few c.requires.repair,
      length-map c.as_slice-links.result.now (λ (link : Link). link.portal),
    )

pub returns : goal.returns
returns c =
    let mesh = c.args.mesh.now in
    let repair = c.args.repair.now in
    let found = repaired mesh repair c.args.first c.args.parts.kept.now c.args.parts.bridge.now c.args.parts.rest.now c.args.last
    c.requires.parts c.as_slice.result.now c.as_slice-links.result.now c.in_ok-onward.onward.taken c.in_ok-onward.onward.dropped c.in_ok-way.way.taken
    c.in_ok-way.way.dropped c.in_ok-onward.ensures.meeting (c.as_slice.ensures.value ∙ c.in_ok-onward.ensures.links) c.in_ok-way.ensures.meeting
    (c.as_slice-links.ensures.value ∙ c.in_ok-way.ensures.links) c.cost-cost.result c.in_ok-turns.turns c.cost-cost.ensures c.in_ok-turns.ensures in
    subst (λ (ls : List Link). IsRepaired mesh repair c.args.first c.cost-cost.result ls c.in_ok-turns.turns c.in_ok-way.way.taken c.saturating_sub.result)
    (c.as_slice-links.ensures.value ∙ sym c.from_vec.ensures)
    (subst (λ (n : ℕ). IsRepaired mesh repair c.args.first c.cost-cost.result c.as_slice-links.result.now c.in_ok-turns.turns c.in_ok-way.way.taken n)
    (sym c.saturating_sub.ensures) found)
