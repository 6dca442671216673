use Rattle.std.proofs.Common.{◌≡◌, ℕ, ℤ, ◌↔◌, ◌∙◌, ap, subst, sym, to_z, of_z, w32}
use Rattle.nav_ground.specs.declared.cell.Window.{Window}
use Rattle.nav_ground.specs.declared.shape.Shape.{Shape}
use Rattle.nav_ground.specs.Shapes.{Covers, bounds_of, prism_window, square_window, IsWithinReach}
use Rattle.nav_ground.specs.Limits.{IsShape}
use Rattle.nav_ground.specs.Prisms.{IsNearPoint}
use Rattle.nav_ground.specs.Tiling.{IsInWindow}
use Rattle.nav_ground.proofs.BoxLaws.{near_read}
use Rattle.nav_ground.proofs.ShapeLaws.{bounds_are_reach, covered_in_bounds}
use Rattle.nav_ground.proofs.shape.bounds.Goals as goal

-- what a shape covers lies in a window that is its bounds
covered_within : (shape same : Shape) (window : Window) → shape ≡ same → window ≡ bounds_of same
    → (x z floor : ℕ) → Covers shape x z floor → IsInWindow window x z
covered_within shape same window e bounds x z floor covered =
    let P : Shape → Type 0 = λ (s : Shape). Covers s x z floor in
    let Q : Window → Type 0 = λ (w : Window). IsInWindow w x z in
    subst Q (sym bounds) (covered_in_bounds same x z floor (subst P e covered))

-- and such a window is what is within its reach
reached_within : (shape same : Shape) (window : Window) → shape ≡ same → window ≡ bounds_of same
    → (x z : ℕ) → IsInWindow window x z ↔ IsWithinReach shape x z
reached_within shape same window e bounds x z =
    subst (λ (s : Shape). IsInWindow window x z ↔ IsWithinReach s x z) (sym e)
    (subst (λ (w : Window). IsInWindow w x z ↔ IsWithinReach same x z) (sym bounds) (bounds_are_reach same x z))

pub returns-in-Cylinder-clause-covered : goal.returns-in-Cylinder-clause-covered
returns-in-Cylinder-clause-covered c = covered_within c.args.shape.now _ c.disc_bounds.result c.in-Cylinder.is c.disc_bounds.ensures

pub returns-in-AreaCylinder-clause-covered : goal.returns-in-AreaCylinder-clause-covered
returns-in-AreaCylinder-clause-covered c =
    covered_within c.args.shape.now _ c.disc_bounds-in-AreaCylinder.result c.in-AreaCylinder.is c.disc_bounds-in-AreaCylinder.ensures

pub returns-in-Prism-clause-columns : goal.returns-in-Prism-clause-columns
returns-in-Prism-clause-columns c =
    reached_within c.args.shape.now _ c.base_window.result c.in-Prism.is (c.base_window.ensures ∙ ap prism_window c.corners.ensures)

pub returns-in-Prism-clause-covered : goal.returns-in-Prism-clause-covered
returns-in-Prism-clause-covered c =
    covered_within c.args.shape.now _ c.base_window.result c.in-Prism.is (c.base_window.ensures ∙ ap prism_window c.corners.ensures)

-- the square that the code finds, whose centre it has in 32 bits
found_square : (x z : ℤ) (r : ℕ) (window : Window) → IsNearPoint (record { x = x; z = z })
    → window ≡ square_window (to_z w32 (of_z w32 x)) (to_z w32 (of_z w32 z)) r → window ≡ square_window x z r
found_square x z r window near is = is ∙ (λ i. square_window (near_read x near.left near.right i) (near_read z near.bottom near.top i) r)

pub returns-in-Disc-clause-columns : goal.returns-in-Disc-clause-columns
returns-in-Disc-clause-columns c =
    let d = c.in-Disc in
    let limits = subst IsShape d.is c.requires in
    reached_within c.args.shape.now _ c.square_bounds.result d.is (found_square d.x d.z d.r c.square_bounds.result limits.centre c.square_bounds.ensures)

pub returns-in-Disc-clause-covered : goal.returns-in-Disc-clause-covered
returns-in-Disc-clause-covered c =
    let d = c.in-Disc in
    let limits = subst IsShape d.is c.requires in
    covered_within c.args.shape.now _ c.square_bounds.result d.is (found_square d.x d.z d.r c.square_bounds.result limits.centre c.square_bounds.ensures)
