use Rattle.std.proofs.Common.{◌+◌, ◌++◌, ◌∙◌, ap, arith, subst, sym}
use Rattle.std.specs.Global.{Vec}
use Rattle.mesh_types.specs.declared.region.UnitEdge.{UnitEdge}
use Rattle.contour_walk.specs.Tables.{IsFit}
use Rattle.contour_walk.specs.Walk.{edge_at, right_side}
use Rattle.contour_walk.proofs.Loops.{right_pushed, right_ended, upon_at}
use Rattle.contour_walk.proofs.sides.push_right_side.Goals as goal
use Rattle.contour_walk.proofs.sides.push_right_side.Goals.{then-k-strips+in_ok-push_to_right_end, else-k-strips}

pub push_end-requires-clause-fit : goal.push_end-requires-clause-fit
push_end-requires-clause-fit c = subst IsFit (sym c.index-strips-k.is) (c.requires.fit c.loop-k.k c.index-strips-k.result c.loop-k-test.true)

pub push_end-requires-clause-column : goal.push_end-requires-clause-column
push_end-requires-clause-column c =
    let fit = subst IsFit (sym c.index-strips-k.is) (c.requires.fit c.loop-k.k c.index-strips-k.result c.loop-k-test.true) in (fit.columns.some, omega arith)

pub push_to_right_end-requires-clause-lower : goal.push_to_right_end-requires-clause-lower
push_to_right_end-requires-clause-lower c =
    subst IsFit (sym c.index-strips-k.is) (c.requires.fit c.loop-k.k c.index-strips-k.result c.loop-k-test.true)

pub push_to_right_end-requires-clause-upper : goal.push_to_right_end-requires-clause-upper
push_to_right_end-requires-clause-upper c =
    subst IsFit (sym c.index-strips-k-then-k-strips.is) (c.requires.fit (c.loop-k.k + 1) c.index-strips-k-then-k-strips.result c.if-k-strips.true)

pub push_to_right_end-requires-clause-upon : goal.push_to_right_end-requires-clause-upon
push_to_right_end-requires-clause-upon c =
    upon_at c.args.strips.now c.loop-k.k c.index-strips-k.result c.index-strips-k-then-k-strips.result c.requires.upon c.if-k-strips.true
    c.index-strips-k.is c.index-strips-k-then-k-strips.is

pub loop-k-preserved : goal.loop-k-preserved
loop-k-preserved c =
    let edge = edge_at c.args.rim.table.now.window c.args.rim.cells.now c.args.rim.regions.now in
    let strips = c.args.strips.now in
    elim c.if-k-strips.branch [
      | then-k-strips+in_ok-push_to_right_end w ↦
          right_pushed edge strips c.loop-k.k c.index-strips-k.result c.index-strips-k.is w.index-strips-k-then-k-strips.result w.index-strips-k-then-k-strips.is
          w.if-k-strips.true c.loop-k.edges.items c.push_end.new.edges.items c.if-k-strips.edges.items
          (c.args.edges.now.items ++ right_side edge strips) c.loop-k.invariant c.in_ok-push_end.ensures
          (ap (λ (v : Vec UnitEdge). v.items) w.edges-is ∙ w.in_ok-push_to_right_end.ensures)
      | else-k-strips w ↦
          right_ended edge strips c.loop-k.k c.index-strips-k.result c.index-strips-k.is c.loop-k.edges.items c.if-k-strips.edges.items
          (c.args.edges.now.items ++ right_side edge strips) c.loop-k-test.true w.if-k-strips.false c.loop-k.invariant
          (ap (λ (v : Vec UnitEdge). v.items) w.edges-is ∙ c.in_ok-push_end.ensures)
    ]
