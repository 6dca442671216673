use Rattle.std.proofs.Common.{Bool, sym, ap, get_or, ◌∙◌}
use Rattle.std.specs.Prelude.{◌&&◌}
use Rattle.std.specs.Bool.{beq}
use Rattle.corridor_search.specs.Landmarks.{is_unreached}
use Rattle.corridor_search.proofs.Alike.{alike-first, alike-more}
use Rattle.corridor_search.proofs.landmarks.are_alike.Goals as goal

pub loop-place-init : goal.loop-place-init
loop-place-init c = sym (alike-first c.args.heights c.args.others)

pub loop-place-preserved : goal.loop-place-preserved
loop-place-preserved c =
    let place = c.loop-place.place in
    ap (λ (b : Bool). b && beq (is_unreached (get_or c.args.heights place 0)) (is_unreached (get_or c.args.others place 0))) c.loop-place.invariant
    ∙ sym (alike-more place c.args.heights c.args.others)
