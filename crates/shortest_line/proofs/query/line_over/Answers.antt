use Rattle.shortest_line.proofs.Pulled.{chain_of, coordinates_of, few_portals, line_found, turns_few, turns_placed}
use Rattle.shortest_line.proofs.query.line_over.Goals as goal

pub turns-requires-clause-chain : goal.turns-requires-clause-chain
turns-requires-clause-chain c =
    chain_of c.args.mesh.now c.args.query.now c.args.first c.args.last c.args.links c.as_slice.result.now c.as_slice.ensures c.requires.sound c.requires.query
    c.requires.start c.requires.goal c.requires.walk

pub turns-requires-clause-few : goal.turns-requires-clause-few
turns-requires-clause-few c =
    few_portals c.args.mesh.now c.args.query.now c.args.first c.args.last c.args.links c.as_slice.result.now c.as_slice.ensures c.requires.sound c.requires.query
    c.requires.start c.requires.goal c.requires.walk

pub turns-requires-clause-coordinates : goal.turns-requires-clause-coordinates
turns-requires-clause-coordinates c =
    coordinates_of c.args.mesh.now c.args.query.now c.args.first c.args.last c.args.links c.as_slice.result.now c.as_slice.ensures c.requires.sound c.requires.query
    c.requires.start c.requires.goal c.requires.walk

pub measured-upper-requires-clause-few : goal.measured-upper-requires-clause-few
measured-upper-requires-clause-few c =
    turns_few c.args.mesh.now c.args.query.now c.args.first c.args.last c.args.links c.as_slice.result.now c.as_slice.ensures c.requires.sound c.requires.query
    c.requires.start c.requires.goal c.requires.walk c.in_ok-turns.turns c.as_slice-2.result.now c.as_slice-2.ensures c.in_ok-turns.ensures

pub measured-upper-requires-clause-corners : goal.measured-upper-requires-clause-corners
measured-upper-requires-clause-corners c =
    turns_placed c.args.mesh.now c.args.query.now c.args.first c.args.last c.args.links c.as_slice.result.now c.as_slice.ensures c.requires.sound c.requires.query
    c.requires.start c.requires.goal c.requires.walk c.in_ok-turns.turns c.as_slice-2.result.now c.as_slice-2.ensures c.in_ok-turns.ensures

pub returns-clause-found : goal.returns-clause-found
returns-clause-found c =
    line_found c.args.mesh.now c.args.query.now c.args.first c.args.last c.args.links c.as_slice.result.now c.as_slice.ensures c.requires.sound c.requires.query
    c.requires.start c.requires.goal c.requires.walk c.in_ok-turns.turns c.as_slice-2.result.now c.as_slice-2.ensures c.in_ok-turns.ensures
    c.measured-upper.result c.down-lower.result c.measured-upper.ensures c.down-lower.ensures.low
