use Rattle.std.proofs.Common.{List, sym, subst}
use Rattle.funnel_path.specs.Coordinates.{HasChainCoordinates}
use Rattle.mesh_types.specs.declared.links.Link.{Link}
use Rattle.mesh_types.specs.Chains.{IsChain}
use Rattle.mesh_types.specs.Right.{portals_of}
use Rattle.place_ways.proofs.WayLaws.{chain_of, coordinates_of}
use Rattle.place_ways.proofs.ways.way_along.Goals as goal

pub turns-requires-clause-chain : goal.turns-requires-clause-chain
turns-requires-clause-chain c =
    let q = c.args.query.now in
    subst (λ (links : List Link). IsChain q.from.point (portals_of links) q.goal.point) (sym c.as_slice-links.ensures)
    (chain_of c.args.mesh.now q c.args.corridor c.requires.sound c.requires.places c.requires.found)

pub turns-requires-clause-coordinates : goal.turns-requires-clause-coordinates
turns-requires-clause-coordinates c =
    let q = c.args.query.now in
    subst (λ (links : List Link). HasChainCoordinates q.from.point (portals_of links) q.goal.point) (sym c.as_slice-links.ensures)
    (coordinates_of c.args.mesh.now q c.args.corridor c.requires.sound c.requires.places c.requires.found c.requires.query)
