use Rattle.std.proofs.Common.{◌≡◌, ℤ, pos, take, get_or, arith, sym, ap, ◌∙◌}
use Rattle.std.specs.Int.{int_min, int_max}
use Rattle.std.proofs.lemmas.List.{take_all}
use Rattle.nav_base.specs.declared.point.Point.{Point}
use Rattle.nav_ground.proofs.BoxLaws.{least-more, greatest-more, whole_box}
use Rattle.nav_ground.proofs.prism.corner_box.Goals as goal

pub loop-corner-preserved : goal.loop-corner-preserved
loop-corner-preserved c =
    let i = c.loop-corner.corner-index in
    let corners = c.args.corners.now in
    let zero_point : Point = record { x = pos 0; z = pos 0 } in
    let corner = get_or corners i zero_point in
    record {
      left = c.least_corner-low.ensures.x ∙ ap (λ (n : ℤ). int_min n corner.x) c.loop-corner.invariant.left
          ∙ sym (least-more (λ p. p.x) corners i zero_point _ (omega arith));
      bottom = c.least_corner-low.ensures.z ∙ ap (λ (n : ℤ). int_min n corner.z) c.loop-corner.invariant.bottom
          ∙ sym (least-more (λ p. p.z) corners i zero_point _ (omega arith));
      right = c.greatest_corner-high.ensures.x ∙ ap (λ (n : ℤ). int_max n corner.x) c.loop-corner.invariant.right
          ∙ sym (greatest-more (λ p. p.x) corners i zero_point _ (omega arith));
      top = c.greatest_corner-high.ensures.z ∙ ap (λ (n : ℤ). int_max n corner.z) c.loop-corner.invariant.top
          ∙ sym (greatest-more (λ p. p.z) corners i zero_point _ (omega arith));
    }

pub returns : goal.returns
returns c =
    let corners = c.args.corners.now in
    let all : take c.loop-corner.corner-index corners ≡ corners = take_all _ _ (omega arith) in
    whole_box corners (take c.loop-corner.corner-index corners) c.loop-corner.low c.loop-corner.high all
    c.loop-corner.invariant.left c.loop-corner.invariant.bottom c.loop-corner.invariant.right c.loop-corner.invariant.top
