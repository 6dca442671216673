use Rattle.std.proofs.Common.{ap, ◌∙◌, arith}
use Rattle.contour_walk.specs.Tables.{index_of}
use Rattle.contour_walk.proofs.Marks.{none_marked, column_marked, strip_marked}
use Rattle.contour_walk.proofs.owners.mark_strip.Goals as goal

pub loop-x-init : goal.loop-x-init
loop-x-init c = none_marked c.args.cells.now c.args.strip.now c.requires.fit c.args.number c.args.owners.now

pub loop-x-preserved : goal.loop-x-preserved
loop-x-preserved c =
    column_marked c.args.cells.now c.requires.cells c.args.strip.now c.requires.fit c.loop-x.x c.index_of-index.result c.args.number c.args.owners.now
    c.loop-x.owners c.mark.new.owners (c.loop-x.auto.x, omega (arith, c.loop-x-test.true)) c.requires.same
    (c.index_of-index.ensures ∙ ap (index_of c.args.cells.now) c.place_in.ensures) c.mark.ensures.same c.mark.ensures.here c.mark.ensures.others
    c.loop-x.invariant

pub returns : goal.returns
returns c =
    strip_marked c.args.cells.now c.args.strip.now c.requires.fit c.loop-x.x c.args.number c.args.owners.now c.loop-x.owners
    (omega (arith, c.loop-x-test.false)) c.loop-x.invariant
