use Rattle.std.proofs.Common.{◌≡◌, ◌+◌, ℕ, inl, inr, arith, subst, rules}
use Rattle.std.proofs.lemmas.Bool.{cases_lt}
use Rattle.mesh_place.specs.HeldPoints.{IsNearerOver}
use Rattle.mesh_place.proofs.HeldLaws.{lines_and, no_lines}
use Rattle.mesh_place.proofs.held_points.nearer_above.Goals as goal

pub loop-z-init : goal.loop-z-init
loop-z-init c = no_lines c.args.p c.args.polygon.now c.args.lines.first c.args.lines.first c.args.best c.requires.best (omega arith)

pub nearer_on_line-nearest-requires-clause-best : goal.nearer_on_line-nearest-requires-clause-best
nearer_on_line-nearest-requires-clause-best c = c.loop-z.invariant.holds

pub loop-z-preserved : goal.loop-z-preserved
loop-z-preserved c =
    let z = c.loop-z.z in
    lines_and c.args.p c.args.polygon.now c.args.lines.first z z (z + 1) c.args.lines.first (z + 1) c.args.best c.loop-z.nearest c.nearer_on_line-nearest.result
    c.loop-z.invariant c.nearer_on_line-nearest.ensures
    (λ at low high. elim (cases_lt at z) [ inl less ↦ inl (low, less) | inr least ↦ inr (least, high) ])

pub returns : goal.returns
returns c =
    let end : c.loop-z.z ≡ c.args.lines.last + 1 = search rules in
    subst (λ (n : ℕ). IsNearerOver c.args.polygon.now c.args.p c.args.lines.first n c.args.best c.loop-z.nearest) end c.loop-z.invariant
