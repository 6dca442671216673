use Rattle.std.proofs.Common.{◌+◌, List, take, sym, subst}
use Rattle.std.specs.Prelude.{Contains, Option}
use Rattle.std.proofs.lemmas.Bool.{iff_false}
use Rattle.std.proofs.lemmas.List.{take_all}
use Rattle.wall_query.specs.declared.questions.Wall.{Wall}
use Rattle.wall_query.specs.Walls.{IsBestOf}
use Rattle.wall_query.proofs.BestLaws.{one_better, one_not}
use Rattle.wall_query.proofs.nearest.nearest_of.Goals.{then-branch, else-branch}
use Rattle.wall_query.proofs.nearest.nearest_of.Goals as goal

pub loop-wall-preserved : goal.loop-wall-preserved
loop-wall-preserved c =
    let mesh = c.args.mesh.now in
    let asked = c.args.asked.now in
    let walls = c.args.walls.now in
    let i = c.loop-wall.wall-index in
    elim c.if-branch.branch [
      | then-branch w ↦
          subst (λ (best : Option Wall). IsBestOf c.args.mesh.now c.args.asked.now (Contains (take (c.loop-wall.wall-index + 1) c.args.walls.now)) best) (sym w.best-is)
          (one_better mesh asked walls i _ c.loop-wall-test.true c.loop-wall.best c.loop-wall.invariant (c.requires.walls i _ c.loop-wall-test.true)
          (c.in_ok-is_better.ensures.0 w.if-branch.true).0 (c.in_ok-is_better.ensures.0 w.if-branch.true).1)
      | else-branch w ↦
          subst (λ (best : Option Wall). IsBestOf c.args.mesh.now c.args.asked.now (Contains (take (c.loop-wall.wall-index + 1) c.args.walls.now)) best) (sym w.best-is)
          (one_not mesh asked walls i _ c.loop-wall-test.true c.loop-wall.best c.loop-wall.invariant (iff_false c.in_ok-is_better.ensures w.if-branch.false))
    ]

pub returns : goal.returns
returns c =
    subst (λ (seen : List Wall). IsBestOf c.args.mesh.now c.args.asked.now (Contains seen) c.loop-wall.best)
    (take_all c.loop-wall.wall-index c.args.walls.now c.loop-wall-test.false) c.loop-wall.invariant
