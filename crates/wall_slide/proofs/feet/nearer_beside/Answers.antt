use Rattle.std.proofs.Common.{ℕ, ◌+◌, ◌*◌, ◌≤◌, ◌<◌, ℤ, pos, ◌-ℤ◌, ◌+ℤ◌, ap, ◌∙◌, FitsSigned, to_z, of_z, rules, w32, arith}
use Rattle.std.proofs.lemmas.Int.{to_z-of_z}
use Rattle.wall_slide.specs.Feet.{far_from}
use Rattle.wall_slide.proofs.FootLaws.{all_rows, fewer_rows, first_row, more_rows}
use Rattle.wall_slide.proofs.RowLaws.{root_most, square-most}
use Rattle.wall_slide.proofs.feet.nearer_beside.Goals as goal

few_rows : (n m : ℕ) → n * n < m → m ≤ 34359738368 → n ≤ 185363
few_rows n m less most = root_most n 185363 34359738368 (omega (arith, less, most)) (omega arith)

pub loop-out-init : goal.loop-out-init
loop-out-init c = record {
  nearer = first_row c.args.polygon.now c.args.motion c.args.foot.row c.args.best c.args.best c.requires.looked;
  few = omega arith;
}

pub rows_beside-low-requires-clause-out : goal.rows_beside-low-requires-clause-out
rows_beside-low-requires-clause-out c =
    let most = square-most c.args.motion.to c.loop-out.nearest c.requires.motion.to c.loop-out.invariant.nearer.coordinates in
    let few = few_rows c.loop-out.out c.square_distance.result (omega (arith, c.loop-out-test.true)) (omega (arith, most, c.square_distance.ensures)) in
    omega (arith, few)

pub loop-out-smaller : goal.loop-out-smaller
loop-out-smaller c =
    let old = far_from c.args.motion c.loop-out.nearest in
    let new = far_from c.args.motion c.nearer_on_row-nearest-in-loop-out.result in
    let kept = c.nearer_on_row-nearest.ensures.kept in
    let kept' = c.nearer_on_row-nearest-in-loop-out.ensures.kept in
    fewer_rows c.loop-out.out old new (omega (arith, kept, kept')) (omega (arith, c.loop-out-test.true, c.square_distance.ensures))

pub loop-out-preserved : goal.loop-out-preserved
loop-out-preserved c =
    let read = to_z-of_z w32 c.args.foot.row (search rules) in
    let out = c.loop-out.out in
    let low = c.rows_beside-low.result.0 in
    let high = c.rows_beside-low.result.1 in
    let fits : FitsSigned w32 low = search rules in
    let fits' : FitsSigned w32 high = search rules in
    let most = square-most c.args.motion.to c.loop-out.nearest c.requires.motion.to c.loop-out.invariant.nearer.coordinates in
    let few = few_rows c.loop-out.out c.square_distance.result (omega (arith, c.loop-out-test.true)) (omega (arith, most, c.square_distance.ensures)) in
    record {
      nearer = more_rows c.args.polygon.now c.args.motion c.args.foot.row (out + 1) (to_z w32 (of_z w32 low)) (to_z w32 (of_z w32 high)) c.args.best c.loop-out.nearest
          c.nearer_on_row-nearest.result c.nearer_on_row-nearest-in-loop-out.result
          (to_z-of_z w32 low fits ∙ c.rows_beside-low.ensures.low ∙ ap (λ (n : ℤ). n -ℤ pos (out + 1)) read)
          (to_z-of_z w32 high fits' ∙ c.rows_beside-low.ensures.high ∙ ap (λ (n : ℤ). n +ℤ pos (out + 1)) read)
          c.loop-out.invariant.nearer c.nearer_on_row-nearest.ensures c.nearer_on_row-nearest-in-loop-out.ensures;
      few = omega (arith, few);
    }

pub returns : goal.returns
returns c =
    all_rows c.args.polygon.now c.args.motion c.args.facing c.args.foot c.requires.facing c.requires.foot c.loop-out.out c.args.best c.loop-out.nearest
    c.loop-out.invariant.nearer (omega (arith, c.loop-out-test.false, c.square_distance.ensures))
