use Rattle.std.proofs.Common.{rules, ◌≡◌, true, All, length, take, subst, arith}
use Rattle.std.proofs.lemmas.List.{take_all}
use Rattle.nav_base.specs.Convex.{corner_at}
use Rattle.poly_merge.specs.Rows.{lies_in}
use Rattle.poly_merge.proofs.Apart.{more_rows}
use Rattle.poly_merge.proofs.edge.rows_of.Goals as goal

pub loop-place-preserved : goal.loop-place-preserved
loop-place-preserved c =
    more_rows c.args.corners.now c.args.places.now c.loop-place.rows c.widened-rows.result c.loop-place.place-index c.loop-place-test.true
    (search rules) (search rules) c.loop-place.invariant

pub returns : goal.returns
returns c =
    subst (All (λ place. lies_in c.loop-place.rows (corner_at c.args.corners.now place) ≡ true)) (take_all c.loop-place.place-index c.args.places.now c.loop-place-test.false)
    c.loop-place.invariant
