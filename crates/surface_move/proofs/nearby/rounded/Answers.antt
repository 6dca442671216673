use Rattle.std.proofs.Common.{◌≡◌, pos, ◌+ℤ◌, ℤ, w32, w64, to_z, of_z, ap, sym, subst, ◌∙◌, lit<}
use Rattle.std.proofs.lemmas.Int.{to_z-of_z}
use Rattle.nav_base.specs.Point.{IsCoordinate}
use Rattle.surface_move.specs.Ways.{IsRounded}
use Rattle.surface_move.proofs.NearPoints.{nothing_left, something_left, rounded_whole, rounded_broken, low_coordinate, high_coordinate}
use Rattle.surface_move.proofs.Numbers.{coordinate_narrows, reads, small_coordinate}
use Rattle.surface_move.proofs.nearby.rounded.Goals as goal

pub returns-then-rest-eq0-clause-rounded : goal.returns-then-rest-eq0-clause-rounded
returns-then-rest-eq0-clause-rounded c =
    let n = c.args.steps in
    let low = c.quotient-low.result.0 in
    let rounded = rounded_whole n c.args.place low c.quotient-low.result.1 c.requires.some (sym (to_z-of_z w64 c.args.place c.ranges.place) ∙ c.quotient-low.ensures.whole) c.quotient-low.ensures.least c.quotient-low.ensures.less (nothing_left c.quotient-low.result.1 c.quotient-low.ensures.least c.if-rest-eq0.true) in
    subst (λ (x : ℤ). IsRounded (pos n) c.args.place x x)
    (sym (coordinate_narrows low (low_coordinate n c.args.place low low c.requires.some rounded c.requires.least c.requires.most))) rounded

pub returns-clause-rounded : goal.returns-clause-rounded
returns-clause-rounded c =
    let n = c.args.steps in
    let low = c.quotient-low.result.0 in
    let rounded = rounded_broken n c.args.place low c.quotient-low.result.1 c.requires.some (sym (to_z-of_z w64 c.args.place c.ranges.place) ∙ c.quotient-low.ensures.whole) c.quotient-low.ensures.least c.quotient-low.ensures.less (something_left c.quotient-low.result.1 c.if-rest-eq0.false) in
    let is_low = low_coordinate n c.args.place low (low +ℤ pos 1) c.requires.some rounded c.requires.least c.requires.most in
    let is_high = high_coordinate n c.args.place low c.requires.some rounded c.requires.least c.requires.most in
    let next : to_z w64 (of_z w64 low) +ℤ pos 1 ≡ low +ℤ pos 1 = ap (λ (x : ℤ). x +ℤ pos 1) (reads low 65536 (small_coordinate low is_low) (lit< tt)) in
    subst (λ (x : ℤ). IsRounded (pos n) c.args.place x (to_z w32 (of_z w32 (to_z w64 (of_z w64 (to_z w64 (of_z w64 low) +ℤ pos 1)))))) (sym (coordinate_narrows low is_low))
    (subst (λ (x : ℤ). IsRounded (pos n) c.args.place low x)
    (sym (coordinate_narrows (to_z w64 (of_z w64 low) +ℤ pos 1) (subst IsCoordinate (sym next) is_high) ∙ next)) rounded)

pub returns-clause-low : goal.returns-clause-low
returns-clause-low c =
    let n = c.args.steps in
    let low = c.quotient-low.result.0 in
    let rounded = rounded_broken n c.args.place low c.quotient-low.result.1 c.requires.some (sym (to_z-of_z w64 c.args.place c.ranges.place) ∙ c.quotient-low.ensures.whole) c.quotient-low.ensures.least c.quotient-low.ensures.less (something_left c.quotient-low.result.1 c.if-rest-eq0.false) in
    let is_low = low_coordinate n c.args.place low (low +ℤ pos 1) c.requires.some rounded c.requires.least c.requires.most in
    subst IsCoordinate (sym (coordinate_narrows low is_low)) is_low

pub returns-clause-high : goal.returns-clause-high
returns-clause-high c =
    let n = c.args.steps in
    let low = c.quotient-low.result.0 in
    let rounded = rounded_broken n c.args.place low c.quotient-low.result.1 c.requires.some (sym (to_z-of_z w64 c.args.place c.ranges.place) ∙ c.quotient-low.ensures.whole) c.quotient-low.ensures.least c.quotient-low.ensures.less (something_left c.quotient-low.result.1 c.if-rest-eq0.false) in
    let is_low = low_coordinate n c.args.place low (low +ℤ pos 1) c.requires.some rounded c.requires.least c.requires.most in
    let is_high = high_coordinate n c.args.place low c.requires.some rounded c.requires.least c.requires.most in
    let next : to_z w64 (of_z w64 low) +ℤ pos 1 ≡ low +ℤ pos 1 = ap (λ (x : ℤ). x +ℤ pos 1) (reads low 65536 (small_coordinate low is_low) (lit< tt)) in
    subst IsCoordinate (sym (coordinate_narrows (to_z w64 (of_z w64 low) +ℤ pos 1) (subst IsCoordinate (sym next) is_high) ∙ next)) is_high
