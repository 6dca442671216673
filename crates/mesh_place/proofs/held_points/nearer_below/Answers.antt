use Rattle.std.proofs.Common.{◌≡◌, ◌+◌, ◌-◌, ◌≤◌, ℕ, inl, inr, arith, subst, rules}
use Rattle.std.proofs.lemmas.Bool.{cases_lt}
use Rattle.mesh_place.specs.HeldPoints.{IsNearerOver}
use Rattle.mesh_place.proofs.HeldLaws.{lines_and, no_lines}
use Rattle.mesh_place.proofs.held_points.nearer_below.Goals as goal

pub loop-back-init : goal.loop-back-init
loop-back-init c = no_lines c.args.p c.args.polygon.now (c.args.lines.last + 1 - 0) (c.args.lines.last + 1) c.args.best c.requires.best (omega arith)

pub nearer_on_line-nearest-requires-clause-best : goal.nearer_on_line-nearest-requires-clause-best
nearer_on_line-nearest-requires-clause-best c = c.loop-back.invariant.holds

pub loop-back-preserved : goal.loop-back-preserved
loop-back-preserved c =
    let back = c.loop-back.back in
    let last = c.args.lines.last in
    let few : back ≤ last = search rules in
    lines_and c.args.p c.args.polygon.now (last + 1 - back) (last + 1) (last - back) (last - back + 1) (last + 1 - (back + 1)) (last + 1) c.args.best
    c.loop-back.nearest c.nearer_on_line-nearest.result
    c.loop-back.invariant c.nearer_on_line-nearest.ensures
    (λ at low high. elim (cases_lt at (last + 1 - back)) [
      | inl less ↦ inr (omega (arith, low, few), omega (arith, less, few))
      | inr least ↦ inl (least, high)
    ])

pub returns : goal.returns
returns c =
    let end : (c.args.lines.last + 1 - c.loop-back.back) ≡ c.args.lines.first = search rules in
    subst (λ (n : ℕ). IsNearerOver c.args.polygon.now c.args.p n (c.args.lines.last + 1) c.args.best c.loop-back.nearest) end c.loop-back.invariant
