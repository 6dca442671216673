use Rattle.std.proofs.Common.{◌≡◌, ℕ, ◌*◌, ◌-◌, ◌^◌, pos, ℤ, ◌-ℤ◌, ◌≤ℤ◌, ap, sym, subst, ◌∙◌, inl, inr, lit<}
use Rattle.std.specs.Int.RustNames.{unsigned_abs}
use Rattle.nav_base.specs.Point.{cross_of, from_to}
use Rattle.surface_move.proofs.NearPoints.{long_axis}
use Rattle.surface_move.proofs.Numbers.{reads}
use Rattle.surface_move.proofs.Turns.{across_wide, across_high}
use Rattle.surface_move.proofs.parts.rounding.Goals as goal

pub returns-then-wide-way-clause-most : goal.returns-then-wide-way-clause-most
returns-then-wide-way-clause-most c off is =
    let value =
    reads c.times.result (2 ^ 34) c.times.ensures.small (lit< tt) ∙ c.times.ensures.value ∙ ap (λ (m : ℕ). pos (m * (c.args.way.steps - 1))) c.across-aside.ensures in
    subst (λ (x : ℤ). cross_of (from_to c.args.begin c.args.end) off ≤ℤ x) (sym value)
    (across_wide c.args.begin c.args.end c.args.way off is (sym c.across-wide.ensures ∙ c.if-wide-way.true))

pub returns-clause-most : goal.returns-clause-most
returns-clause-most c off is =
    let value =
    reads c.times-2.result (2 ^ 34) c.times-2.ensures.small (lit< tt) ∙ c.times-2.ensures.value ∙ ap (λ (m : ℕ). pos (m * (c.args.way.steps - 1))) c.along-aside.ensures in
    let high : unsigned_abs (c.args.way.to.z -ℤ c.args.way.from.z) ≡ c.args.way.steps =
    elim (long_axis (unsigned_abs (c.args.way.to.x -ℤ c.args.way.from.x)) (unsigned_abs (c.args.way.to.z -ℤ c.args.way.from.z))) [
      | inl e ↦ absurd (c.if-wide-way.false (c.across-wide.ensures ∙ e ∙ sym c.requires.way.steps))
      | inr e ↦ e ∙ sym c.requires.way.steps
    ] in
    subst (λ (x : ℤ). cross_of (from_to c.args.begin c.args.end) off ≤ℤ x) (sym value) (across_high c.args.begin c.args.end c.args.way off is high)
