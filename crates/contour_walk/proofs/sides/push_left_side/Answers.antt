use Rattle.std.proofs.Common.{◌+◌, ◌-◌, ap, ◌∙◌, arith, subst, sym}
use Rattle.std.specs.Global.{Vec}
use Rattle.mesh_types.specs.declared.region.UnitEdge.{UnitEdge}
use Rattle.contour_walk.specs.Tables.{IsFit}
use Rattle.contour_walk.specs.Walk.{edge_at}
use Rattle.contour_walk.proofs.Loops.{left_pushed, left_begun, upon_at}
use Rattle.contour_walk.proofs.sides.push_left_side.Goals as goal
use Rattle.contour_walk.proofs.sides.push_left_side.Goals.{then-k-strips+in_ok-push_to_left_end, else-k-strips}

pub push_end-requires-clause-fit : goal.push_end-requires-clause-fit
push_end-requires-clause-fit c =
    subst IsFit (sym c.index-strips-k.is)
    (c.requires.fit (c.loop-k.k - 1) c.index-strips-k.result (omega (arith, c.loop-k-test.true, c.loop-k.auto.k)))

pub push_end-requires-clause-column : goal.push_end-requires-clause-column
push_end-requires-clause-column c =
    let fit = subst IsFit (sym c.index-strips-k.is)
    (c.requires.fit (c.loop-k.k - 1) c.index-strips-k.result (omega (arith, c.loop-k-test.true, c.loop-k.auto.k))) in (omega arith, fit.columns.some)

pub push_to_left_end-requires-clause-lower : goal.push_to_left_end-requires-clause-lower
push_to_left_end-requires-clause-lower c =
    subst IsFit (sym c.index-strips-k.is)
    (c.requires.fit (c.loop-k.k - 1) c.index-strips-k.result (omega (arith, c.loop-k-test.true, c.loop-k.auto.k)))

pub push_to_left_end-requires-clause-upper : goal.push_to_left_end-requires-clause-upper
push_to_left_end-requires-clause-upper c =
    subst IsFit (sym c.index-strips-k-then-k-strips.is)
    (c.requires.fit (c.loop-k.k - 1 + 1) c.index-strips-k-then-k-strips.result c.if-k-strips.true)

pub push_to_left_end-requires-clause-upon : goal.push_to_left_end-requires-clause-upon
push_to_left_end-requires-clause-upon c =
    upon_at c.args.strips.now (c.loop-k.k - 1) c.index-strips-k.result c.index-strips-k-then-k-strips.result c.requires.upon c.if-k-strips.true
    c.index-strips-k.is c.index-strips-k-then-k-strips.is

pub loop-k-preserved : goal.loop-k-preserved
loop-k-preserved c =
    let edge = edge_at c.args.rim.table.now.window c.args.rim.cells.now c.args.rim.regions.now in
    elim c.if-k-strips.branch [
      | then-k-strips+in_ok-push_to_left_end w ↦
          left_pushed edge c.args.strips.now (c.loop-k.k - 1) c.index-strips-k.result c.index-strips-k.is w.index-strips-k-then-k-strips.result
          w.index-strips-k-then-k-strips.is w.if-k-strips.true c.loop-k.k c.args.edges.now.items c.loop-k.edges.items
          c.if-k-strips.edges.items c.push_end.new.edges.items (omega (arith, c.loop-k-test.true)) c.loop-k.invariant
          (ap (λ (v : Vec UnitEdge). v.items) w.edges-is ∙ w.in_ok-push_to_left_end.ensures) c.in_ok-push_end.ensures
      | else-k-strips w ↦
          left_begun edge c.args.strips.now (c.loop-k.k - 1) c.index-strips-k.result c.index-strips-k.is c.loop-k.k c.args.edges.now.items
          c.if-k-strips.edges.items c.push_end.new.edges.items (omega (arith, c.loop-k-test.true)) (omega (arith, c.loop-k-test.true, c.loop-k.auto.k))
          w.if-k-strips.false (ap (λ (v : Vec UnitEdge). v.items) w.edges-is ∙ c.loop-k.invariant) c.in_ok-push_end.ensures
    ]
