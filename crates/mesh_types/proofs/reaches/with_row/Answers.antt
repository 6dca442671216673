use Rattle.std.proofs.Common.{subst, arith, List, ℕ}
use Rattle.std.specs.Prelude.{All}
use Rattle.std.proofs.lemmas.List.{take_all}
use Rattle.mesh_types.specs.Reaches.{IsBetween}
use Rattle.mesh_types.proofs.ReachLaws.{floors-more}
use Rattle.mesh_types.proofs.reaches.with_row.Goals as goal

pub loop-floor-preserved : goal.loop-floor-preserved
loop-floor-preserved c = record {
  wider = let a = c.loop-floor.invariant.wider in let b = c.with_reach-wide.ensures.one in record {
    least = let x = a.least in let y = b.least in omega (arith, x, y);
    greatest = let x = a.greatest in let y = b.greatest in omega (arith, x, y);
  };
  there = floors-more c.loop-floor.wide c.with_reach-wide.result c.args.floors.now c.loop-floor.floor-index 0 (omega arith) c.with_reach-wide.ensures.one
      c.loop-floor.invariant.there
      (let a = c.with_reach-wide.ensures.other in record { least = a.least; greatest = a.greatest });
}

pub returns-clause-there : goal.returns-clause-there
returns-clause-there c =
    subst (λ (floors : List ℕ). All (IsBetween c.loop-floor.wide) floors) (take_all c.loop-floor.floor-index c.args.floors.now (omega arith))
    c.loop-floor.invariant.there
