use Rattle.kinds_handle.proofs.GroundSpans.{each_in}
use Rattle.kinds_handle.proofs.ground.window_for.Goals as goal

pub returns-then-are_inside : goal.returns-then-are_inside
returns-then-are_inside c =
    let are = c.are_spans.ensures.0 c.if-are_spans.true in (
      c.in_ok-window.ensures.0,
      record {
        window = c.in_ok-window.ensures.1;
        each = each_in c.size_of.result c.args.field.now c.args.spans.now c.size_of.ensures.width c.size_of.ensures.depth are;
        inside = c.are_inside.ensures.0 c.if-are_inside.true;
        order = are.order;
      },
    )
