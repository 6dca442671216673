use Rattle.std.proofs.Common.{ℕ, ◌+◌, ◌++◌, [], ◌∷◌, sym, ap, ◌∙◌, arith}
use Rattle.std.specs.List.{range_with_len}
use Rattle.nav_ground.proofs.Selections.{range-push}
use Rattle.ear_cut.proofs.cut.places.Goals as goal

pub loop-place-preserved : goal.loop-place-preserved
loop-place-preserved c =
    c.in_ok-push.ensures.items ∙ ap (λ places. places ++ c.loop-place.place ∷ []) c.loop-place.invariant
    ∙ ap (λ (n : ℕ). range_with_len 0 c.loop-place.place ++ n ∷ []) {x = c.loop-place.place} {y = 0 + c.loop-place.place} (omega arith)
    ∙ sym (range-push 0 c.loop-place.place)

pub returns : goal.returns
returns c =
    c.loop-place.invariant
    ∙ ap (range_with_len 0) {x = c.loop-place.place} {y = c.args.count} (omega (arith, c.loop-place-test.false, c.loop-place.auto.place-end))
