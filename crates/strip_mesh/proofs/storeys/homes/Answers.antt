use Rattle.std.proofs.Common.{ℕ, ◌+◌, ◌∙◌, List, [], ◌∷◌, ◌++◌, ap, arith, sym}
use Rattle.std.specs.List.{range_with_len}
use Rattle.nav_ground.proofs.Selections.{range-push}
use Rattle.strip_mesh.proofs.storeys.homes.Goals as goal

pub loop-strip-preserved : goal.loop-strip-preserved
loop-strip-preserved c =
    let n : ℕ = c.loop-strip.strip in
    c.in_ok-push.ensures.items ∙ ap (λ (xs : List ℕ). xs ++ n ∷ []) c.loop-strip.invariant
    ∙ ap (λ k. range_with_len 0 n ++ k ∷ []) {x = n} {y = 0 + n} (omega arith)
    ∙ sym (range-push 0 n)

pub returns : goal.returns
returns c =
    c.from_vec.ensures ∙ c.loop-strip.invariant
    ∙ ap (range_with_len 0) {x = c.loop-strip.strip} {y = c.args.count} (omega (arith, c.loop-strip-test.false, c.loop-strip.auto.strip-end))
