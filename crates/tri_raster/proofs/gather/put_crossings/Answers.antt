use Rattle.std.proofs.Common.{ℕ, ◌+◌, arith, refl, sym, ◌∙◌, ap, min, List, length}
use Rattle.tri_raster.specs.declared.triangle.Bound.{Bound}
use Rattle.tri_raster.proofs.Crossed.{lies_right, lies_left, all_lines, none_yet, first_widened, next_widened, last_widened}
use Rattle.tri_raster.proofs.Puts.{put-length}
use Rattle.tri_raster.proofs.gather.put_crossings.Goals as goal

pub returns-then-end-first-clause-about : goal.returns-then-end-first-clause-about
returns-then-end-first-clause-about c =
    let left = c.args.left.now in
    let right = c.args.right.now in
    all_lines left right c.requires.left c.requires.right (left.column + 1) c.min-end.result c.args.bounds.now (omega (arith, c.if-end-first.true)) c.min-end.ensures
    (none_yet left right c.requires.left c.requires.right (left.column + 1) c.args.bounds.now refl)

pub loop-line-init : goal.loop-line-init
loop-line-init c =
    let left = c.args.left.now in
    let right = c.args.right.now in
    record {
      after = omega arith;
      until = omega (arith, c.if-end-first.false);
      end = c.min-end.ensures ∙ ap (λ (n : ℕ). min right.end (n + 1)) (sym (ap (λ (bs : List Bound). length bs) c.put.ensures ∙ put-length c.args.bounds.now _ _ _));
      widened = first_widened left right c.requires.left c.requires.right (left.column + 1) _ _ c.args.bounds.now c.put.new.bounds refl (omega (arith, c.if-end-first.false, c.min-end.ensures)) c.heights-low.ensures c.put.ensures;
    }

pub heights-next_low-requires-clause-before : goal.heights-next_low-requires-clause-before
heights-next_low-requires-clause-before c = lies_right c.args.left.now c.args.right.now c.requires.left c.requires.right c.loop-line.line (omega (arith, c.loop-line.invariant.after))

pub heights-next_low-requires-clause-behind : goal.heights-next_low-requires-clause-behind
heights-next_low-requires-clause-behind c = lies_left c.args.left.now c.args.right.now c.requires.left c.requires.right c.loop-line.line (omega (arith, c.loop-line-test.true, c.loop-line.invariant.end))

pub loop-line-preserved : goal.loop-line-preserved
loop-line-preserved c =
    let left = c.args.left.now in
    let right = c.args.right.now in
    let line = c.loop-line.line in
    record {
      after = omega (arith, c.loop-line.invariant.after);
      until = omega (arith, c.loop-line-test.true);
      end = c.loop-line.invariant.end ∙ ap (λ (n : ℕ). min right.end (n + 1)) (sym (ap (λ (bs : List Bound). length bs) c.put-in-loop-line.ensures ∙ put-length c.loop-line.bounds _ _ _));
      widened = next_widened left right c.requires.left c.requires.right line c.loop-line.low c.loop-line.high _ _ c.min.result c.max.result c.args.bounds.now c.loop-line.bounds c.put-in-loop-line.new.bounds
          (omega (arith, c.loop-line.invariant.after)) (omega (arith, c.loop-line-test.true, c.loop-line.invariant.end)) c.heights-next_low.ensures c.loop-line.invariant.widened c.min.ensures c.max.ensures
          c.put-in-loop-line.ensures;
    }

pub returns-clause-wider : goal.returns-clause-wider
returns-clause-wider c = (last_widened c.args.left.now c.args.right.now c.requires.left c.requires.right c.loop-line.line c.min-end.result c.loop-line.low c.loop-line.high c.args.bounds.now c.loop-line.bounds
    c.put-2.new.bounds (omega (arith, c.loop-line-test.false, c.loop-line.invariant.until)) c.loop-line.invariant.widened c.put-2.ensures).wider

pub returns-clause-filled : goal.returns-clause-filled
returns-clause-filled c = (last_widened c.args.left.now c.args.right.now c.requires.left c.requires.right c.loop-line.line c.min-end.result c.loop-line.low c.loop-line.high c.args.bounds.now c.loop-line.bounds
    c.put-2.new.bounds (omega (arith, c.loop-line-test.false, c.loop-line.invariant.until)) c.loop-line.invariant.widened c.put-2.ensures).filled

pub returns-clause-about : goal.returns-clause-about
returns-clause-about c =
    let left = c.args.left.now in
    let right = c.args.right.now in
    let widened = last_widened left right c.requires.left c.requires.right c.loop-line.line c.min-end.result c.loop-line.low c.loop-line.high c.args.bounds.now c.loop-line.bounds c.put-2.new.bounds
    (omega (arith, c.loop-line-test.false, c.loop-line.invariant.until)) c.loop-line.invariant.widened c.put-2.ensures in
    all_lines left right c.requires.left c.requires.right c.loop-line.line c.min-end.result c.put-2.new.bounds (omega (arith, c.loop-line-test.false))
    (c.loop-line.invariant.end ∙ ap (λ (n : ℕ). min right.end (n + 1)) (sym (ap (λ (bs : List Bound). length bs) c.put-2.ensures ∙ put-length c.loop-line.bounds _ _ _))) widened.about
