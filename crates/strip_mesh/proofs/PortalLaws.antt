-- The portals of links between strips lie on the edges of both rectangles.
use Rattle.std.proofs.Common.{◌≡◌, ℕ, ◌+◌, ◌-◌, ◌<◌, ◌≤◌, List, length, subst, arith, zero, suc}
use Rattle.nav_ground.specs.declared.cell.Cell.{Cell}
use Rattle.mesh_types.specs.Portals.{IsPortalOut, IsPortalIn, LiesAlong}
use Rattle.mesh_types.specs.StripPolygons.{sixteenths, first_of, strip_polygon}
use Rattle.mesh_types.specs.StripLinks.{edge_portal}
use Rattle.strip_mesh.proofs.Rectangles.{toward_right, toward_top, toward_left, toward_bottom}

-- where a part of a strip's cells is that meets another over an edge
abbrev pub MeetsAt : ℕ → List Cell → ℕ → ℕ → Type 0
MeetsAt zero own first last = Unit {0}
MeetsAt (suc zero) own first last = last + 1 ≡ length own
MeetsAt (suc (suc zero)) own first last = Unit {0}
MeetsAt (suc (suc (suc edge))) own first last = first ≡ 0

pub portal_out : (edge : ℕ) (own : List Cell) (first last : ℕ) → edge < 4 → first ≤ last → last < length own → MeetsAt edge own first last
    → IsPortalOut (strip_polygon own) edge (edge_portal edge ((first_of own).at.x + first) ((first_of own).at.x + last) (first_of own).at.z)
portal_out zero own first last small order inside meets = record {
  there = omega arith;
  lies = toward_right (first_of own).at.z (first_of own).at.x ((first_of own).at.x + length own - 1 + 1) ((first_of own).at.x + first)
      ((first_of own).at.x + last + 1) (omega arith) (omega (arith, order)) (omega (arith, inside));
}
portal_out (suc zero) own first last small order inside meets =
    let same : (first_of own).at.x + length own - 1 + 1 ≡ (first_of own).at.x + last + 1 = omega (arith, meets) in
    let P : ℕ → Type 0 = λ x. LiesAlong (sixteenths ((first_of own).at.x + length own - 1 + 1) (first_of own).at.z)
    (sixteenths ((first_of own).at.x + length own - 1 + 1) ((first_of own).at.z + 1)) (sixteenths x (first_of own).at.z) (sixteenths x ((first_of own).at.z + 1)) in
    record {
      there = omega arith;
      lies = subst P same (toward_top ((first_of own).at.x + length own - 1 + 1) (first_of own).at.z ((first_of own).at.z + 1) (first_of own).at.z
          ((first_of own).at.z + 1) (omega arith) (omega arith) (omega arith));
    }
portal_out (suc (suc zero)) own first last small order inside meets = record {
  there = omega arith;
  lies = toward_left ((first_of own).at.z + 1) ((first_of own).at.x + length own - 1 + 1) (first_of own).at.x ((first_of own).at.x + last + 1)
      ((first_of own).at.x + first) (omega arith) (omega (arith, order)) (omega (arith, inside));
}
portal_out (suc (suc (suc zero))) own first last small order inside meets =
    let same : (first_of own).at.x ≡ (first_of own).at.x + first = omega (arith, meets) in
    let P : ℕ → Type 0 = λ x. LiesAlong (sixteenths (first_of own).at.x ((first_of own).at.z + 1))
    (sixteenths (first_of own).at.x (first_of own).at.z) (sixteenths x ((first_of own).at.z + 1)) (sixteenths x (first_of own).at.z) in
    record {
      there = omega arith;
      lies = subst P same (toward_bottom (first_of own).at.x ((first_of own).at.z + 1) (first_of own).at.z ((first_of own).at.z + 1) (first_of own).at.z
          (omega arith) (omega arith) (omega arith));
    }
portal_out (suc (suc (suc (suc edge)))) own first last small order inside meets = absurd (omega (arith, small))

-- where another strip lies beyond an edge
abbrev pub LiesBeyond : ℕ → List Cell → List Cell → ℕ → ℕ → Type 0
LiesBeyond zero own other first last =
    ((first_of other).at.z + 1 ≡ (first_of own).at.z) × ((first_of other).at.x ≤ (first_of own).at.x + first)
    × ((first_of own).at.x + last + 1 ≤ (first_of other).at.x + length other)
LiesBeyond (suc zero) own other first last = ((first_of other).at.z ≡ (first_of own).at.z) × ((first_of other).at.x ≡ (first_of own).at.x + last + 1)
LiesBeyond (suc (suc zero)) own other first last =
    ((first_of other).at.z ≡ (first_of own).at.z + 1) × ((first_of other).at.x ≤ (first_of own).at.x + first)
    × ((first_of own).at.x + last + 1 ≤ (first_of other).at.x + length other)
LiesBeyond (suc (suc (suc edge))) own other first last =
    ((first_of other).at.z ≡ (first_of own).at.z) × ((first_of other).at.x + length other ≡ (first_of own).at.x + first)

pub portal_in : (edge : ℕ) (own other : List Cell) (first last : ℕ) → edge < 4 → first ≤ last → 0 < length other → LiesBeyond edge own other first last
    → IsPortalIn (strip_polygon other) (edge_portal edge ((first_of own).at.x + first) ((first_of own).at.x + last) (first_of own).at.z)
portal_in zero own other first last small order some beyond =
    let P : ℕ → Type 0 = λ z. LiesAlong (sixteenths ((first_of other).at.x + length other - 1 + 1) ((first_of other).at.z + 1))
    (sixteenths (first_of other).at.x ((first_of other).at.z + 1)) (sixteenths ((first_of own).at.x + last + 1) z) (sixteenths ((first_of own).at.x + first) z) in
    record {
      edge = 2;
      there = omega arith;
      lies = subst P beyond.0 (toward_left ((first_of other).at.z + 1) ((first_of other).at.x + length other - 1 + 1) (first_of other).at.x
          ((first_of own).at.x + last + 1) ((first_of own).at.x + first) beyond.1 (omega (arith, order)) (omega (arith, beyond.2, some)));
    }
portal_in (suc zero) own other first last small order some beyond =
    let P : ℕ → ℕ → Type 0 = λ x z. LiesAlong (sixteenths (first_of other).at.x ((first_of other).at.z + 1)) (sixteenths (first_of other).at.x (first_of other).at.z)
    (sixteenths x (z + 1)) (sixteenths x z) in
    record {
      edge = 3;
      there = omega arith;
      lies = subst (P ((first_of own).at.x + last + 1)) beyond.0 (subst (λ x. P x (first_of other).at.z) beyond.1
          (toward_bottom (first_of other).at.x ((first_of other).at.z + 1) (first_of other).at.z ((first_of other).at.z + 1) (first_of other).at.z
          (omega arith) (omega arith) (omega arith)));
    }
portal_in (suc (suc zero)) own other first last small order some beyond =
    let P : ℕ → Type 0 = λ z. LiesAlong (sixteenths (first_of other).at.x (first_of other).at.z)
    (sixteenths ((first_of other).at.x + length other - 1 + 1) (first_of other).at.z) (sixteenths ((first_of own).at.x + first) z) (sixteenths ((first_of own).at.x + last + 1) z) in
    record {
      edge = 0;
      there = omega arith;
      lies = subst P beyond.0 (toward_right (first_of other).at.z (first_of other).at.x ((first_of other).at.x + length other - 1 + 1)
          ((first_of own).at.x + first) ((first_of own).at.x + last + 1) beyond.1 (omega (arith, order)) (omega (arith, beyond.2, some)));
    }
portal_in (suc (suc (suc zero))) own other first last small order some beyond =
    let end : (first_of other).at.x + length other - 1 + 1 ≡ (first_of own).at.x + first = omega (arith, beyond.1, some) in
    let P : ℕ → ℕ → Type 0 = λ x z. LiesAlong (sixteenths ((first_of other).at.x + length other - 1 + 1) (first_of other).at.z)
    (sixteenths ((first_of other).at.x + length other - 1 + 1) ((first_of other).at.z + 1)) (sixteenths x z) (sixteenths x (z + 1)) in
    record {
      edge = 1;
      there = omega arith;
      lies = subst (P ((first_of own).at.x + first)) beyond.0 (subst (λ x. P x (first_of other).at.z) end
          (toward_top ((first_of other).at.x + length other - 1 + 1) (first_of other).at.z ((first_of other).at.z + 1) (first_of other).at.z
          ((first_of other).at.z + 1) (omega arith) (omega arith) (omega arith)));
    }
portal_in (suc (suc (suc (suc edge)))) own other first last small order some beyond = absurd (omega (arith, small))
