use Rattle.std.proofs.Common.{◌<◌, List, length, refl, sym, subst}
use Rattle.mesh_types.specs.declared.links.Link.{Link}
use Rattle.mesh_types.specs.Chains.{IsChain}
use Rattle.mesh_types.specs.Right.{portals_of}
use Rattle.mesh_types.specs.Taut.{IsTaut}
use Rattle.funnel_path.specs.Coordinates.{HasChainCoordinates}
use Rattle.path_queries.proofs.BatchAnswers.{batch-none, batch-pulled, batch-way, portals-few}
use Rattle.path_queries.proofs.BatchLaws.{linked}
use Rattle.path_queries.proofs.batch.plan_by.Goals as goal

pub returns-in_default : goal.returns-in_default
returns-in_default c = (c.in_default.ensures.none.0 refl, tt)

pub returns-in_default-place_of : goal.returns-in_default-place_of
returns-in_default-place_of c =
    batch-none c.args.mesh.now c.args.goal c.args.filter.now c.args.flood.list.now c.args.start c.in-Some.first c.requires.flood c.in-Some.ensures.located
    c.in_default-place_of.ensures.none

pub links_from-requires-clause-linked : goal.links_from-requires-clause-linked
links_from-requires-clause-linked c =
    linked c.args.mesh.now c.args.filter.now c.requires.flood.last _ c.args.flood.list.now c.requires.flood.flood.flood

pub turns-requires-clause-chain : goal.turns-requires-clause-chain
turns-requires-clause-chain c =
    subst (λ (links : List Link). IsChain c.args.start.point (portals_of links) c.args.goal.point) (sym c.as_slice.ensures)
    (batch-pulled c.args.mesh.now c.args.goal c.args.filter.now c.args.flood.list.now c.args.start c.in-Some.first c.requires.flood c.in-Some.ensures.located
    c.in-Some-place_of.place c.in_ok-links.links c.requires.sound c.requires.start c.requires.goal c.in-Some-place_of.ensures.there
    c.in-Some-place_of.ensures.some c.in_ok-links.ensures.lead).chain

pub turns-requires-clause-few : goal.turns-requires-clause-few
turns-requires-clause-few c =
    subst (λ (links : List Link). length (portals_of links) < 4294967295) (sym c.as_slice.ensures)
    (portals-few c.args.mesh.now c.args.goal c.args.filter.now c.args.flood.list.now c.args.start c.in-Some.first c.requires.flood c.in-Some.ensures.located
    c.in-Some-place_of.place c.in_ok-links.links c.in-Some-place_of.ensures.there c.in_ok-links.ensures.few)

pub turns-requires-clause-coordinates : goal.turns-requires-clause-coordinates
turns-requires-clause-coordinates c =
    subst (λ (links : List Link). HasChainCoordinates c.args.start.point (portals_of links) c.args.goal.point) (sym c.as_slice.ensures)
    (batch-pulled c.args.mesh.now c.args.goal c.args.filter.now c.args.flood.list.now c.args.start c.in-Some.first c.requires.flood c.in-Some.ensures.located
    c.in-Some-place_of.place c.in_ok-links.links c.requires.sound c.requires.start c.requires.goal c.in-Some-place_of.ensures.there
    c.in-Some-place_of.ensures.some c.in_ok-links.ensures.lead).coordinates

pub returns : goal.returns
returns c =
    batch-way c.args.mesh.now c.args.goal c.args.filter.now c.args.flood.list.now c.args.start c.in-Some.first c.requires.flood c.in-Some.ensures.located
    c.in-Some-place_of.place c.in_ok-links.links c.in_ok-turns.turns c.least_floor.result c.in-Some-place_of.ensures.there
    c.in-Some-place_of.ensures.some c.in_ok-links.ensures.lead c.in_ok-links.ensures.few
    (subst (λ (links : List Link). IsTaut c.args.start.point (portals_of links) c.args.goal.point c.in_ok-turns.turns) c.as_slice.ensures
    c.in_ok-turns.ensures) c.least_floor.ensures
