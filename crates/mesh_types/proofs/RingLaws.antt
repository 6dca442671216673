-- A ring has few edges: no two begin at one corner of a cell.
use Rattle.std.proofs.Common.{◌≡◌, ℕ, ◌+◌, ◌*◌, ◌<◌, ◌≤◌, ℤ, ◌≤ℤ◌, pos, List, length, get_or, map, arith, eqb, ap, ◌∙◌}
use Rattle.std.specs.Prelude.{All, unsigned_abs, ◌≢◌}
use Rattle.std.specs.List.{AllPairs, IsDistinct}
use Rattle.std.proofs.lemmas.Bool.{eqb-true}
use Rattle.std.proofs.lemmas.Bool.Decides.{Decides-eqb}
use Rattle.std.proofs.lemmas.Int.{ints}
use Rattle.std.proofs.lemmas.List.{length-map}
use Rattle.std.proofs.lemmas.List.Elements.{All-contains, All-map}
use Rattle.std.proofs.lemmas.Map.Made.{IsDistinct-from_AllPairs}
use Rattle.std.proofs.lemmas.Map.Steps.{length-le_from_distinct_below}
use Rattle.std.proofs.lemmas.Map.Views.{Contains-from_any}
use Rattle.nav_base.specs.declared.point.Point.{Point}
use Rattle.nav_base.specs.Point.{IsCellCorner}
use Rattle.nav_ground.proofs.Kept.{AllPairs-map}
use Rattle.mesh_types.specs.declared.region.UnitEdge.{UnitEdge}
use Rattle.mesh_types.specs.Rings.{beginnings, IsRing}

-- the corners of cells, numbered row by row
abbrev number : Point → ℕ
number p = unsigned_abs p.x * 1025 + unsigned_abs p.z

small_number : (p : Point) → IsCellCorner p → number p < 1050625
small_number p at = omega (arith, ints, at.left, at.right, at.bottom, at.top)

same_part : (a b c d : ℤ) → pos 0 ≤ℤ a → pos 0 ≤ℤ b → b ≤ℤ pos 1024 → pos 0 ≤ℤ c → pos 0 ≤ℤ d → d ≤ℤ pos 1024
    → unsigned_abs a * 1025 + unsigned_abs b ≡ unsigned_abs c * 1025 + unsigned_abs d → (a ≡ c) × (b ≡ d)
same_part a b c d ha hb hb' hc hd hd' same = (omega (arith, ints), omega (arith, ints))

same_corner : (a b : Point) → IsCellCorner a → IsCellCorner b → number a ≡ number b → a ≡ b
same_corner a b at at' same =
    let parts = same_part a.x a.z b.x b.z at.left at.bottom at.top at'.left at'.bottom at'.top same in
    ap (λ (x : ℤ). record a { x = x }) parts.0 ∙ ap (λ (z : ℤ). record b { z = z }) parts.1

-- no two corners begin two edges, so there are no more edges than corners of cells in the largest field
pub few_edges : (edges : List UnitEdge) → IsRing edges → length edges ≤ 1050625
few_edges edges ring =
    let corners : List Point = beginnings edges in
    let apart : AllPairs (λ (a b : Point). number a ≢ number b) corners =
    λ i j d before there. λ same. ring.apart i j d before there
    (same_corner (get_or corners i d) (get_or corners j d) (ring.inside i d (omega (arith, before, there))) (ring.inside j d there) same) in
    let distinct : IsDistinct eqb (map number corners) = IsDistinct-from_AllPairs Decides-eqb (map number corners) (AllPairs-map (λ m n. m ≢ n) number corners apart) in
    let small : All (λ n. n < 1050625) (map number corners) = All-map (λ n. n < 1050625) number corners (λ k d there. small_number (get_or corners k d) (ring.inside k d there)) in
    let few = length-le_from_distinct_below (map number corners) 1050625 distinct (λ q has. All-contains (λ n. n < 1050625) (map number corners) q small (Contains-from_any (λ x y. eqb-true x y) q (map number corners) has)) in
    omega (arith, few, length-map corners number, length-map edges (λ (edge : UnitEdge). edge.from))
