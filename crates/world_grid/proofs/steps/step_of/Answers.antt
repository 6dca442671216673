use Rattle.std.proofs.Common.{arith, refl, sym, ◌∙◌, true≢false, le_trans, lit≤}
use Rattle.world_grid.proofs.SizeLaws.{size_parts, is_finite, finer_value}
use Rattle.world_grid.proofs.steps.step_of.Goals as goal

pub returns-in_err-parts-clause-none : goal.returns-in_err-parts-clause-none
returns-in_err-parts-clause-none c = absurd (true≢false (sym (is_finite c.args.size c.if-not-is_grid_size.ensures) ∙ c.in_err-parts.ensures.none refl))

pub overflow_sub-result : goal.overflow_sub-result
overflow_sub-result c =
    let parts = c.in_ok-parts.parts in
    let has = size_parts c.args.size parts c.if-not-is_grid_size.ensures c.in_ok-parts.ensures.found in
    le_trans c.requires.finer (le_trans (lit≤ tt) has.least)

pub invariant_of-result : goal.invariant_of-result
invariant_of-result c =
    let parts = c.in_ok-parts.parts in
    let has = size_parts c.args.size parts c.if-not-is_grid_size.ensures c.in_ok-parts.ensures.found in
    record { least = has.leading; most = parts.few; fine = omega (arith, has.least, c.requires.finer); coarse = omega (arith, has.most) }

pub returns-clause-found : goal.returns-clause-found
returns-clause-found c =
    let parts = c.in_ok-parts.parts in
    let has = size_parts c.args.size parts c.if-not-is_grid_size.ensures c.in_ok-parts.ensures.found in
    record { allowed = c.if-not-is_grid_size.ensures; value = finer_value c.args.size parts.negative parts.digits parts.power c.args.finer has.positive (le_trans c.requires.finer (le_trans (lit≤ tt) has.least)) c.in_ok-parts.ensures.found }

pub returns-clause-none : goal.returns-clause-none
returns-clause-none c = (λ e. absurd (true≢false e), λ none. absurd (none c.if-not-is_grid_size.ensures))
