-- The box of corners, corner by corner.
use Rattle.std.proofs.Common.{◌≡◌, ℕ, ◌<◌, ◌+◌, ℤ, List, length, map, take, get_or, ap, ◌∙◌}
use Rattle.std.specs.Int.{int_min, int_max}
use Rattle.std.proofs.lemmas.List.{map_more}
use Rattle.std.proofs.lemmas.List.Sums.{fold_push}
use Rattle.nav_base.specs.declared.point.Point.{Point}
use Rattle.nav_base.specs.Convex.{corner_at}
use Rattle.mesh_types.specs.Extents.{least_of, greatest_of, extent_of}

-- one corner more
pub least-more : (c : Point → ℤ) (corners : List Point) (i : ℕ) (d : Point) (first : ℤ) → i < length corners
    → least_of first (map c (take (i + 1) corners)) ≡ int_min (least_of first (map c (take i corners))) (c (get_or corners i d))
least-more c corners i d first there = ap (least_of first) (map_more c corners i d there) ∙ fold_push int_min first (map c (take i corners)) (c (get_or corners i d))

pub greatest-more : (c : Point → ℤ) (corners : List Point) (i : ℕ) (d : Point) (first : ℤ) → i < length corners
    → greatest_of first (map c (take (i + 1) corners)) ≡ int_max (greatest_of first (map c (take i corners))) (c (get_or corners i d))
greatest-more c corners i d first there = ap (greatest_of first) (map_more c corners i d there) ∙ fold_push int_max first (map c (take i corners)) (c (get_or corners i d))

-- the box of all corners
pub box : (corners so_far : List Point) (low high : Point) (area low_floor high_floor : ℕ) → so_far ≡ corners
    → low.x ≡ least_of (corner_at corners 0).x (map (λ (p : Point). p.x) so_far)
    → low.z ≡ least_of (corner_at corners 0).z (map (λ (p : Point). p.z) so_far)
    → high.x ≡ greatest_of (corner_at corners 0).x (map (λ (p : Point). p.x) so_far)
    → high.z ≡ greatest_of (corner_at corners 0).z (map (λ (p : Point). p.z) so_far)
    → record { low = low; high = high; area = area } ≡ extent_of (record { corners = corners; area = area; low = low_floor; high = high_floor })
box corners so_far low high area low_floor high_floor all left bottom right top =
    let first : Point = corner_at corners 0 in
    let left' = left ∙ ap (λ (ps : List Point). least_of first.x (map (λ (p : Point). p.x) ps)) all in
    let bottom' = bottom ∙ ap (λ (ps : List Point). least_of first.z (map (λ (p : Point). p.z) ps)) all in
    let right' = right ∙ ap (λ (ps : List Point). greatest_of first.x (map (λ (p : Point). p.x) ps)) all in
    let top' = top ∙ ap (λ (ps : List Point). greatest_of first.z (map (λ (p : Point). p.z) ps)) all in
    λ i. record { low = record { x = left' i; z = bottom' i }; high = record { x = right' i; z = top' i }; area = area }
