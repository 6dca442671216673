use Rattle.std.proofs.Common.{ℕ, max, get_or, sym, ap, ◌∙◌}
use Rattle.std.specs.Int.{abs_diff}
use Rattle.corridor_search.proofs.Gaps.{gap-first, gap-more}
use Rattle.corridor_search.proofs.landmarks.gap.Goals as goal

pub loop-place-init : goal.loop-place-init
loop-place-init c = sym (gap-first c.args.heights c.args.others)

pub loop-place-preserved : goal.loop-place-preserved
loop-place-preserved c =
    let place = c.loop-place.place in
    let height : ℕ = get_or c.args.heights place 0 in
    let other : ℕ = get_or c.args.others place 0 in
    c.max-gap.ensures ∙ ap (max c.loop-place.gap) c.abs_diff.ensures
    ∙ ap (λ (n : ℕ). max n (abs_diff height other)) c.loop-place.invariant
    ∙ sym (gap-more place c.args.heights c.args.others)
