use Rattle.std.proofs.Common.{◌≡◌, ◌≤◌, length, ap, arith}
use Rattle.wall_slide.proofs.CornerLaws.{held_on_left}
use Rattle.wall_slide.proofs.corners.is_facing.Goals as goal

pub returns : goal.returns
returns c test =
    let polygon = c.args.polygon.now in
    let line = c.args.line in
    let size : length c.as_slice-at-end.result.now ≡ length polygon.corners = ap length c.as_slice-at-end.ensures.value in
    let done : length polygon.corners ≤ c.loop-at.at = omega (arith, c.loop-at-test.false, size) in
    record {
      begin = c.requires.begin;
      end = c.requires.end;
      left = λ q holds.
          held_on_left polygon line.begin line.end q c.requires.rules.convex holds (λ k there. c.loop-at.invariant k (omega (arith, there, done)));
    }
