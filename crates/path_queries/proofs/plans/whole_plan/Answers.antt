use Rattle.std.proofs.Common.{◌<◌, List, length, refl, sym, subst}
use Rattle.mesh_types.specs.declared.links.Link.{Link}
use Rattle.mesh_types.specs.Chains.{IsChain}
use Rattle.mesh_types.specs.Right.{portals_of}
use Rattle.mesh_types.specs.Taut.{IsTaut}
use Rattle.funnel_path.specs.Coordinates.{HasChainCoordinates}
use Rattle.path_queries.proofs.PlanParts.{limited-of, no-way-of, portals-few, way-of, way-pulled}
use Rattle.path_queries.proofs.plans.whole_plan.Goals as goal

pub returns-in_default-clause-right : goal.returns-in_default-clause-right
returns-in_default-clause-right c = (
  c.requires.whole,
  record {
    first = c.args.first;
    start = c.requires.start;
    no_goal = c.in_default.ensures.none.0 refl;
  },
)

pub turns-requires-clause-chain : goal.turns-requires-clause-chain
turns-requires-clause-chain c =
    let q = c.args.query.now in
    let found = rw c.in-Found.is at c.in_ok-corridor.ensures in
    subst (λ (links : List Link). IsChain q.from (portals_of links) q.goal) (sym c.as_slice.ensures)
    (way-pulled c.args.mesh.now q c.args.first c.in-Some.last c.requires.start c.in-Some.ensures.located c.requires.whole _
    c.in-Found.corridor c.requires.sound c.requires.query found).chain

pub turns-requires-clause-few : goal.turns-requires-clause-few
turns-requires-clause-few c =
    let found = rw c.in-Found.is at c.in_ok-corridor.ensures in
    subst (λ (links : List Link). length (portals_of links) < 4294967295) (sym c.as_slice.ensures)
    (portals-few c.args.mesh.now c.args.query.now c.args.first c.in-Some.last c.requires.start c.in-Some.ensures.located c.requires.whole _
    c.in-Found.corridor found)

pub turns-requires-clause-coordinates : goal.turns-requires-clause-coordinates
turns-requires-clause-coordinates c =
    let q = c.args.query.now in
    let found = rw c.in-Found.is at c.in_ok-corridor.ensures in
    subst (λ (links : List Link). HasChainCoordinates q.from (portals_of links) q.goal) (sym c.as_slice.ensures)
    (way-pulled c.args.mesh.now q c.args.first c.in-Some.last c.requires.start c.in-Some.ensures.located c.requires.whole _
    c.in-Found.corridor c.requires.sound c.requires.query found).coordinates

pub returns-in_ok-turns-in-Found-clause-right : goal.returns-in_ok-turns-in-Found-clause-right
returns-in_ok-turns-in-Found-clause-right c =
    let q = c.args.query.now in
    let found = rw c.in-Found.is at c.in_ok-corridor.ensures in
    way-of c.args.mesh.now q c.args.first c.in-Some.last c.requires.start c.in-Some.ensures.located c.requires.whole _
    c.in-Found.corridor c.in_ok-turns-in-Found.turns c.least_floor.result found
    (subst (λ (links : List Link). IsTaut q.from (portals_of links) q.goal c.in_ok-turns-in-Found.turns) c.as_slice.ensures
    c.in_ok-turns-in-Found.ensures)
    c.least_floor.ensures

pub returns-in-Limit-clause-right : goal.returns-in-Limit-clause-right
returns-in-Limit-clause-right c =
    let found = rw c.in-Limit.is at c.in_ok-corridor.ensures in
    limited-of c.args.mesh.now c.args.query.now c.args.first c.in-Some.last c.requires.start c.in-Some.ensures.located c.requires.whole
    c.in-Limit.seen found

pub returns-in-Apart-clause-right : goal.returns-in-Apart-clause-right
returns-in-Apart-clause-right c =
    let apart = rw c.in-Apart.is at c.in_ok-corridor.ensures in
    no-way-of c.args.mesh.now c.args.query.now c.args.first c.in-Some.last c.requires.start c.in-Some.ensures.located c.requires.whole apart
