use Rattle.std.proofs.Common.{List, [], length, ap, refl, sym, subst, arith}
use Rattle.mesh_types.specs.declared.answers.Jump.{Jump}
use Rattle.mesh_types.specs.declared.answers.HopStep.{HopStep}
use Rattle.mesh_types.specs.Hops.{HopsTo}
use Rattle.mesh_types.specs.Stretches.{AreTautIn, stretches_from}
use Rattle.off_links.specs.OffMeshLinks.{AreJumps}
use Rattle.off_links.specs.HopGraphs.{HasNoHops, IsCheapestHops}
use Rattle.off_links.proofs.Polygons.{located_there}
use Rattle.off_links.proofs.hops.right_hop.Goals as goal

pub returns-in_default-clause-right : goal.returns-in_default-clause-right
returns-in_default-clause-right c = c.in_default.ensures.none.0 refl

pub returns-in_default-locate-clause-right : goal.returns-in_default-locate-clause-right
returns-in_default-locate-clause-right c = record {
  first = c.in-Some.first;
  start = c.in-Some.ensures.located;
  no_goal = c.in_default-locate.ensures.none.0 refl;
}

pub cheapest_hops-requires-clause-jumps : goal.cheapest_hops-requires-clause-jumps
cheapest_hops-requires-clause-jumps c = subst AreJumps (sym c.as_slice-jumps.ensures) c.requires.question.jumps

pub cheapest_hops-requires-clause-from : goal.cheapest_hops-requires-clause-from
cheapest_hops-requires-clause-from c =
    located_there c.args.mesh.now c.args.question.now.from c.args.question.now.from_y c.in-Some.first c.in-Some.ensures.located

pub returns-in_default-2-clause-right : goal.returns-in_default-2-clause-right
returns-in_default-2-clause-right c =
    let none = rw c.in_default-2.is at c.in_ok-hops.ensures.none in
    record {
      first = c.in-Some.first;
      start = c.in-Some.ensures.located;
      last = c.in-Some-locate.last;
      goal = c.in-Some-locate.ensures.located;
      no_walk = subst (λ (jumps : List Jump). HasNoHops c.args.mesh.now jumps c.in-Some.first c.in-Some-locate.last) c.as_slice-jumps.ensures none;
    }

pub turns-requires-clause-within : goal.turns-requires-clause-within
turns-requires-clause-within c = record { asked = c.requires.question; start = c.in-Some.ensures.located; goal = c.in-Some-locate.ensures.located }

pub turns-requires-clause-walks : goal.turns-requires-clause-walks
turns-requires-clause-walks c =
    let found = rw c.in-Some-2.is at c.in_ok-hops.ensures.found in
    let walks = subst (λ (jumps : List Jump). HopsTo c.args.mesh.now jumps c.in-Some.first c.in-Some-2.hops.steps c.in-Some-locate.last) c.as_slice-jumps.ensures found.walks in
    subst (λ (steps : List HopStep). HopsTo c.args.mesh.now c.args.question.now.jumps c.in-Some.first steps c.in-Some-locate.last) (sym c.as_slice.ensures) walks

pub turns-requires-clause-few : goal.turns-requires-clause-few
turns-requires-clause-few c =
    let found = rw c.in-Some-2.is at c.in_ok-hops.ensures.found in
    let steps = ap (λ (steps : List HopStep). length steps) c.as_slice.ensures in
    omega (arith, steps, found.few, c.requires.sound.tiles.few)

pub returns-clause-right : goal.returns-clause-right
returns-clause-right c =
    let question = c.args.question.now in
    let found =
    subst (λ (jumps : List Jump). IsCheapestHops c.args.mesh.now jumps c.in-Some.first c.in-Some-locate.last c.in-Some-2.hops) c.as_slice-jumps.ensures
    (rw c.in-Some-2.is at c.in_ok-hops.ensures.found) in
    record {
      start = c.in-Some.ensures.located;
      last = c.in-Some-locate.last;
      goal = c.in-Some-locate.ensures.located;
      walks = found.walks;
      cost = found.cost;
      least = found.least;
      taut = subst (λ (steps : List HopStep). AreTautIn (stretches_from question.jumps question.to question.from 0 [] steps) c.in_ok-turns.turns) c.as_slice.ensures
          c.in_ok-turns.ensures;
    }

pub returns-clause-short : goal.returns-clause-short
returns-clause-short c =
    let found = rw c.in-Some-2.is at c.in_ok-hops.ensures.found in
    found.few
