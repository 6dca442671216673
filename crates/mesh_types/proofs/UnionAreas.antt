-- Areas of pieces: two pieces together have the area of both.
use Rattle.std.proofs.Common.{◌≡◌, ℕ, zero, suc, ◌<◌, ◌≤◌, ℤ, ◌+ℤ◌, true, List, [], ◌∷◌, length, map, All, refl, sym, ap, ◌∙◌, arith}
use Rattle.std.specs.Prelude.{slice_index, slice_set}
use Rattle.std.specs.List.{remove}
use Rattle.std.proofs.lemmas.Int.{ints}
use Rattle.std.proofs.lemmas.List.{length-map, get_or-set_other}
use Rattle.std.proofs.Math.ListN.{length-set}
use lib.IntN.{neg_ℤ}
use Rattle.nav_base.specs.declared.point.Point.{Point}
use Rattle.nav_base.specs.Point.{cross_of}
use Rattle.nav_base.specs.Convex.{corner_at}
use Rattle.nav_base.proofs.OrientLaws.{cross_of-exchanged}
use Rattle.mesh_types.specs.declared.region.Triangle.{Triangle}
use Rattle.mesh_types.specs.declared.region.Piece.{Piece}
use Rattle.mesh_types.specs.Ears.{area_of, turns_of}
use Rattle.mesh_types.specs.Merging.{IsPieceOf, Merge, areas_of, is_facing, joined, places_at, union_of}
use Rattle.mesh_types.specs.Words.{piece_of}
use Rattle.mesh_types.proofs.AreaLaws.{three_sides}
use Rattle.mesh_types.proofs.Rounds.{round-union}
use Rattle.mesh_types.proofs.MergeLaws.{piece_at}

-- two pieces over a shared edge
pub area-union : (corners : List Point) (pieces : List Piece) (m : Merge) → m.edge < length (places_at pieces m.first) → m.facing < length (places_at pieces m.second)
    → 2 ≤ length (places_at pieces m.first) → 2 ≤ length (places_at pieces m.second) → is_facing (places_at pieces m.first) m.edge (places_at pieces m.second) m.facing ≡ true
    → area_of corners (union_of pieces m) ≡ area_of corners (places_at pieces m.first) +ℤ area_of corners (places_at pieces m.second)
area-union corners pieces m edge facing more more' faces =
    let at : ℕ → Point = corner_at corners in
    let p = places_at pieces m.first in
    let q = places_at pieces m.second in
    let i : Point = at (slice_index p m.edge) in
    let j : Point = at (slice_index q m.facing) in
    left (area_of corners (union_of pieces m)) (area_of corners p) (area_of corners q) (cross_of i j) (cross_of j i)
    (round-union (λ a b. cross_of (at a) (at b)) p q m.edge m.facing edge facing more more' faces) (cross_of-exchanged j i)
  where
    left : (r s t a b : ℤ) → r +ℤ (a +ℤ b) ≡ s +ℤ t → a ≡ neg_ℤ b → r ≡ s +ℤ t
    left r s t a b e f = omega (arith, ints)

-- ---- sums

areas-set : (corners : List Point) (pieces : List Piece) (i : ℕ) (piece : Piece) → i < length pieces
    → areas_of corners (slice_set pieces i piece) +ℤ area_of corners (places_at pieces i) ≡ areas_of corners pieces +ℤ area_of corners piece.corners
areas-set corners [] i piece below = absurd (omega (arith, below))
areas-set corners (p ∷ pieces) zero piece below = exchanged (area_of corners piece.corners) (areas_of corners pieces) (area_of corners p.corners)
  where
    exchanged : (a r b : ℤ) → (a +ℤ r) +ℤ b ≡ (b +ℤ r) +ℤ a
    exchanged a r b = omega (arith, ints)
areas-set corners (p ∷ pieces) (suc i) piece below =
    under (area_of corners p.corners) (areas_of corners (slice_set pieces i piece)) (area_of corners (places_at pieces i)) (areas_of corners pieces) (area_of corners piece.corners)
    (areas-set corners pieces i piece (omega (arith, below)))
  where
    under : (p s g t a : ℤ) → s +ℤ g ≡ t +ℤ a → (p +ℤ s) +ℤ g ≡ (p +ℤ t) +ℤ a
    under p s g t a e = omega (arith, ints)

areas-remove : (corners : List Point) (pieces : List Piece) (i : ℕ) → i < length pieces
    → areas_of corners (remove pieces i) +ℤ area_of corners (places_at pieces i) ≡ areas_of corners pieces
areas-remove corners [] i below = absurd (omega (arith, below))
areas-remove corners (p ∷ pieces) zero below = swapped (areas_of corners pieces) (area_of corners p.corners)
  where
    swapped : (a b : ℤ) → a +ℤ b ≡ b +ℤ a
    swapped a b = omega (arith, ints)
areas-remove corners (p ∷ pieces) (suc i) below =
    under (area_of corners p.corners) (areas_of corners (remove pieces i)) (area_of corners (places_at pieces i)) (areas_of corners pieces)
    (areas-remove corners pieces i (omega (arith, below)))
  where
    under : (p r g s : ℤ) → r +ℤ g ≡ s → (p +ℤ r) +ℤ g ≡ p +ℤ s
    under p r g s e = omega (arith, ints)

-- a merge keeps the area of all
pub areas-joined : (corners : List Point) (pieces : List Piece) (m : Merge) → m.first < m.second → m.second < length pieces
    → area_of corners (union_of pieces m) ≡ area_of corners (places_at pieces m.first) +ℤ area_of corners (places_at pieces m.second)
    → areas_of corners (joined pieces m) ≡ areas_of corners pieces
areas-joined corners pieces m first second both =
    let united : Piece = record { corners = union_of pieces m } in
    let kept : places_at (slice_set pieces m.first united) m.second ≡ places_at pieces m.second =
    ap (λ (piece : Piece). piece.corners) (get_or-set_other pieces m.first m.second united (record { corners = [] }) (omega (arith, first))) in
    left (areas_of corners (joined pieces m)) (areas_of corners (slice_set pieces m.first united)) (areas_of corners pieces) (area_of corners (union_of pieces m))
    (area_of corners (places_at pieces m.first)) (area_of corners (places_at pieces m.second))
    (ap (λ places. areas_of corners (joined pieces m) +ℤ area_of corners places) (sym kept) ∙ areas-remove corners (slice_set pieces m.first united) m.second (omega (arith, second, length-set pieces m.first united)))
    (areas-set corners pieces m.first united (omega (arith, first, second))) both
  where
    left : (x s old u a b : ℤ) → x +ℤ b ≡ s → s +ℤ a ≡ old +ℤ u → u ≡ a +ℤ b → x ≡ old
    left x s old u a b e f g = omega (arith, ints)

-- triangles as pieces
pub areas-triangles : (corners : List Point) (triangles : List Triangle) → areas_of corners (map piece_of triangles) ≡ turns_of corners triangles
areas-triangles corners [] = refl
areas-triangles corners (t ∷ triangles) =
    (λ i. three_sides (corner_at corners t.a) (corner_at corners t.b) (corner_at corners t.c) i +ℤ areas-triangles corners triangles i)

-- a piece has two corners and more
pub piece-some : (corners : List Point) (pieces : List Piece) (i : ℕ) → All (IsPieceOf corners) pieces → i < length pieces → 2 ≤ length (places_at pieces i)
piece-some corners pieces i are below =
    omega (arith, (piece_at corners pieces i are below).convex.enough, length-map (places_at pieces i) (corner_at corners))
