use Rattle.std.proofs.Common.{◌≡◌, ◌<◌, ℤ, pos, true, length, sym, ap, ◌∙◌, subst, rules, w64, arith}
use Rattle.std.specs.Prelude.{int_lt, ◌<ℤ◌, ◌≤ℤ◌}
use Rattle.std.proofs.lemmas.Int.{ints, to_z-of_z}
use Rattle.nav_base.specs.Point.{orient_of}
use Rattle.mesh_types.specs.Rays.{side_of}
use Rattle.mesh_place.proofs.cells.is_cell_right.Goals as goal

-- what the test of a number says, where it is read from a value
below : (read n : ℤ) → read ≡ n → int_lt read (pos 0) ≡ true → n <ℤ pos 0
below read n is test = subst (λ (m : ℤ). m <ℤ pos 0) is (grind (arith, ints))

pub returns-then-orient-lt0 : goal.returns-then-orient-lt0
returns-then-orient-lt0 c passes q over holds =
    let polygon = c.args.polygon.now in
    let edge = c.loop-edge.edge in
    let begins = c.edge_ends.ensures.begins in
    let ends = c.edge_ends.ensures.ends in
    let same = ap length c.as_slice-edge-end.ensures.value in
    let there : edge < length polygon.corners = omega (arith, c.loop-edge-test.true, same) in
    let side : orient_of c.edge_ends.result.0 c.edge_ends.result.1 q ≡ side_of polygon edge q = λ i. orient_of (begins i) (ends i) q in
    let held : pos 0 ≤ℤ orient_of c.edge_ends.result.0 c.edge_ends.result.1 q = subst (λ (n : ℤ). pos 0 ≤ℤ n) (sym side) (holds edge there) in
    let right = below _ _ (to_z-of_z w64 c.orient.result (search rules) ∙ c.orient.ensures) c.if-orient-lt0.true in
    let left = c.leftmost_over.ensures.left q over in
    omega (arith, ints, held, right, left)
