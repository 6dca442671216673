use Rattle.std.proofs.Common.{arith, ℕ, ◌+◌, ◌≤◌, ◌*◌, ◌^◌, ◌%◌, ap, subst, ◌∙◌, mod-eq_of_lt, lt_of_lt_of_le, lit≤}
use Rattle.world_grid.specs.Grid.{IsNearest}
use Rattle.world_grid.proofs.StepLaws.{small_size, large_size, shifted_fits, near_steps}
use Rattle.world_grid.proofs.steps.steps_in.Goals as goal

pub returns-in_default-clause-nearest : goal.returns-in_default-clause-nearest
returns-in_default-clause-nearest c =
    let p = c.args.parts in
    let s = c.args.step in
    let h = c.in_default.ensures in
    small_size p.digits p.power s.digits s.power p.few s.least (omega (arith, h))

pub returns-then-places-gt33-clause-none : goal.returns-then-places-gt33-clause-none
returns-then-places-gt33-clause-none c _ n =
    let p = c.args.parts in
    let s = c.args.step in
    let h = c.in-Some.ensures in
    let above : 33 + s.power ≤ p.power = omega (arith, h.0, h.1, c.if-places-gt33.true) in
    large_size p.digits p.power s.digits s.power n (p.leading (omega (arith, above))) s.most above

pub nearest-requires-clause-num : goal.nearest-requires-clause-num
nearest-requires-clause-num c =
    let small = shifted_fits c.args.parts.digits c.in-Some.places c.args.parts.few c.if-places-gt33.false in
    rw (c.from.ensures, mod-eq_of_lt (lt_of_lt_of_le small (lit≤ tt))) small

pub returns-clause-nearest : goal.returns-clause-nearest
returns-clause-nearest c =
    let p = c.args.parts in
    let s = c.args.step in
    let h = c.in-Some.ensures in
    let small = shifted_fits p.digits c.in-Some.places p.few c.if-places-gt33.false in
    near_steps p.digits p.power s.digits s.power c.in-Some.places c.nearest.result s.least (omega (arith, h.0, h.1))
    (subst (λ (num : ℕ). IsNearest num (2 * s.digits) c.nearest.result) (ap (λ (a : ℕ). a * 2 ^ c.in-Some.places % 18446744073709551616) c.from.ensures ∙ mod-eq_of_lt (lt_of_lt_of_le small (lit≤ tt)))
    (subst (λ (a : ℕ). IsNearest (c.from.result * 2 ^ c.in-Some.places % 18446744073709551616) (2 * a) c.nearest.result) c.from-2.ensures c.nearest.ensures))
