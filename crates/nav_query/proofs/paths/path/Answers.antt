use Rattle.std.proofs.Common.{List, refl, subst}
use Rattle.mesh_types.specs.declared.links.Link.{Link}
use Rattle.mesh_types.specs.Right.{portals_of}
use Rattle.mesh_types.specs.Taut.{IsTaut}
use Rattle.nav_query.proofs.PathParts.{pulled}
use Rattle.nav_query.proofs.paths.path.Goals as goal

pub returns-in_default-clause-right : goal.returns-in_default-clause-right
returns-in_default-clause-right c = c.in_default.ensures.none.0 refl

pub returns-in_default-locate-clause-right : goal.returns-in_default-locate-clause-right
returns-in_default-locate-clause-right c = record {
  first = c.in-Some.first;
  start = c.in-Some.ensures.located;
  no_goal = c.in_default-locate.ensures.none.0 refl;
}

pub turns-requires-clause-chain : goal.turns-requires-clause-chain
turns-requires-clause-chain c =
    let cheapest = rw c.in-Some-2.is at c.in_ok-corridor.ensures.found in
    (pulled c.args.mesh.now c.args.ends.from c.args.ends.from_y c.args.ends.to c.args.ends.to_y c.in-Some.first c.in-Some-locate.last c.in-Some-2.corridor c.as_slice.result.now
    c.requires.sound c.requires.setting c.requires.from c.requires.to c.in-Some.ensures.located c.in-Some-locate.ensures.located cheapest c.as_slice.ensures).chain

pub turns-requires-clause-few : goal.turns-requires-clause-few
turns-requires-clause-few c =
    let cheapest = rw c.in-Some-2.is at c.in_ok-corridor.ensures.found in
    (pulled c.args.mesh.now c.args.ends.from c.args.ends.from_y c.args.ends.to c.args.ends.to_y c.in-Some.first c.in-Some-locate.last c.in-Some-2.corridor c.as_slice.result.now
    c.requires.sound c.requires.setting c.requires.from c.requires.to c.in-Some.ensures.located c.in-Some-locate.ensures.located cheapest c.as_slice.ensures).few

pub turns-requires-clause-coordinates : goal.turns-requires-clause-coordinates
turns-requires-clause-coordinates c =
    let cheapest = rw c.in-Some-2.is at c.in_ok-corridor.ensures.found in
    (pulled c.args.mesh.now c.args.ends.from c.args.ends.from_y c.args.ends.to c.args.ends.to_y c.in-Some.first c.in-Some-locate.last c.in-Some-2.corridor c.as_slice.result.now
    c.requires.sound c.requires.setting c.requires.from c.requires.to c.in-Some.ensures.located c.in-Some-locate.ensures.located cheapest c.as_slice.ensures).coordinates

pub returns-in_default-2-clause-right : goal.returns-in_default-2-clause-right
returns-in_default-2-clause-right c = record {
  first = c.in-Some.first;
  start = c.in-Some.ensures.located;
  last = c.in-Some-locate.last;
  goal = c.in-Some-locate.ensures.located;
  no_walk = rw c.in_default-2.is at c.in_ok-corridor.ensures.none;
}

pub returns-clause-right : goal.returns-clause-right
returns-clause-right c = record {
  start = c.in-Some.ensures.located;
  last = c.in-Some-locate.last;
  goal = c.in-Some-locate.ensures.located;
  cheapest = rw c.in-Some-2.is at c.in_ok-corridor.ensures.found;
  taut = subst (λ (links : List Link). IsTaut c.args.ends.from (portals_of links) c.args.ends.to c.in_ok-turns.turns) c.as_slice.ensures c.in_ok-turns.ensures;
}
