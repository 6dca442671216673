-- No link inside a tile leads over an edge that lies on a side of the tile: what it would enter lies beyond the side.
use Rattle.std.proofs.Common.{◌≡◌, ℕ, zero, suc, ◌<◌, ℤ, pos, negsuc, ◌+ℤ◌, ◌-ℤ◌, ◌*ℤ◌, ◌≤ℤ◌, ◌<ℤ◌, List, [], ◌∷◌, length, refl, ap, sym, subst, ◌∙◌, arith}
use Rattle.std.specs.Prelude.{All, Contains, slice_get}
use Rattle.std.proofs.lemmas.Int.{ints}
use Rattle.std.proofs.lemmas.Option.{same_Some}
use lib.IntN.{neg_ℤ, *ℤ_comm, *ℤ-zero}
use Rattle.nav_base.specs.declared.point.Point.{Point}
use Rattle.nav_base.specs.Point.{cross_of, orient_of}
use Rattle.nav_base.specs.Convex.{IsStrictlyConvex, corner_at, place_after, side_of_edge}
use Rattle.nav_base.proofs.Polynomials.{at, difference, equal, product}
use Rattle.nav_base.proofs.PointTerms.{orient_term}
use Rattle.nav_base.proofs.ConvexLaws.{place_after-apart, place_after-in, place_after-twice}
use Rattle.nav_base.proofs.OrientLaws.{orient_of-turned}
use Rattle.nav_base.proofs.Signs.{factor-positive, product-not_negative, product-positive}
use Rattle.nav_ground.specs.declared.cell.Window.{Window}
use Rattle.nav_ground.specs.declared.setting.Setting.{Setting}
use Rattle.nav_ground.specs.Tiling.{tile_window}
use Rattle.mesh_types.specs.declared.polygon.Polygon.{Polygon}
use Rattle.mesh_types.specs.declared.links.Link.{Link}
use Rattle.mesh_types.specs.declared.links.Portal.{Portal}
use Rattle.mesh_types.specs.declared.mesh.RimEdge.{RimEdge}
use Rattle.mesh_types.specs.declared.mesh.TileMesh.{TileMesh}
use Rattle.mesh_types.specs.BorderLinks.{scaled}
use Rattle.mesh_types.specs.FitTiles.{IsFit, IsInnerLink, IsInSquare, IsPolygon, IsRimOf, LiesOnSide}
use Rattle.mesh_types.specs.Portals.{IsPortalIn, IsPortalOut, edge_begin, edge_end}
use Rattle.mesh_types.proofs.HeldPoints.{orient_of-scaled}
use Rattle.mesh_types.proofs.MeshLinks.{All-contained}
use Rattle.mesh_types.proofs.MeshPolygons.{All-read}
use Rattle.tile_build.proofs.OneEdge.{left_of_both, not_right_of_both}

-- ---- the square of a tile lies on one side of each line along a side

-- the side of a point from a way along an upright line, and along a level one
upright : (x a b : ℤ) (p : Point) → orient_of (record { x = x; z = a }) (record { x = x; z = b }) p ≡ (a -ℤ b) *ℤ (p.x -ℤ x)
unfolding cross_of orient_of
upright x a b p =
    equal (x ∷ a ∷ b ∷ p.x ∷ p.z ∷ []) (orient_term (record { x = at 0; z = at 1 }) (record { x = at 0; z = at 2 }) (record { x = at 3; z = at 4 }))
    (product (difference (at 1) (at 2)) (difference (at 3) (at 0))) refl

upright_back : (x a b : ℤ) (p : Point) → orient_of (record { x = x; z = a }) (record { x = x; z = b }) p ≡ (b -ℤ a) *ℤ (x -ℤ p.x)
unfolding cross_of orient_of
upright_back x a b p =
    equal (x ∷ a ∷ b ∷ p.x ∷ p.z ∷ []) (orient_term (record { x = at 0; z = at 1 }) (record { x = at 0; z = at 2 }) (record { x = at 3; z = at 4 }))
    (product (difference (at 2) (at 1)) (difference (at 0) (at 3))) refl

level : (z a b : ℤ) (p : Point) → orient_of (record { x = a; z = z }) (record { x = b; z = z }) p ≡ (b -ℤ a) *ℤ (p.z -ℤ z)
unfolding cross_of orient_of
level z a b p =
    equal (z ∷ a ∷ b ∷ p.x ∷ p.z ∷ []) (orient_term (record { x = at 1; z = at 0 }) (record { x = at 2; z = at 0 }) (record { x = at 3; z = at 4 }))
    (product (difference (at 2) (at 1)) (difference (at 4) (at 0))) refl

level_back : (z a b : ℤ) (p : Point) → orient_of (record { x = a; z = z }) (record { x = b; z = z }) p ≡ (a -ℤ b) *ℤ (z -ℤ p.z)
unfolding cross_of orient_of
level_back z a b p =
    equal (z ∷ a ∷ b ∷ p.x ∷ p.z ∷ []) (orient_term (record { x = at 1; z = at 0 }) (record { x = at 2; z = at 0 }) (record { x = at 3; z = at 4 }))
    (product (difference (at 1) (at 2)) (difference (at 0) (at 4))) refl

-- where a multiple of a number that is not negative is positive, no multiple of another such number by the same factor is negative
multiple : (k a b m n : ℤ) → pos 0 ≤ℤ a → pos 0 ≤ℤ b → m ≡ k *ℤ a → n ≡ k *ℤ b → pos 0 <ℤ m → pos 0 ≤ℤ n
multiple k (pos zero) b m n ha hb e e' h = absurd (no_less m (e ∙ *ℤ-zero k) h)
  where
    no_less : (c : ℤ) → c ≡ pos 0 → pos 0 <ℤ c → ⊥
    no_less c z h = omega (arith, ints)
multiple k (pos (suc a)) b m n ha hb e e' h =
    subst (λ (c : ℤ). pos 0 ≤ℤ c) (sym e')
    (product-not_negative k b
    (at_least k (factor-positive (pos (suc a)) k (omega (arith, ints)) (subst (λ (c : ℤ). pos 0 <ℤ c) (e ∙ *ℤ_comm k (pos (suc a))) h))) hb)
  where
    at_least : (c : ℤ) → pos 0 <ℤ c → pos 0 ≤ℤ c
    at_least c h = omega (arith, ints)
multiple k (negsuc a) b m n ha hb e e' h = absurd (omega (arith, ints))

not_less : (a b : ℤ) → a ≤ℤ b → pos 0 ≤ℤ (b -ℤ a)
not_less a b h = omega (arith, ints)

-- where a point of the square lies to the left of a way along a side, no point of it lies to the right
module _ (window : Window) (q c : Point) (inside : IsInSquare window q) (inside' : IsInSquare window c) where
  abbrev AlikeFrom : Point → Point → Type 0
  AlikeFrom u v = pos 0 <ℤ orient_of u v q → pos 0 ≤ℤ orient_of u v c

  upright_side : (x : ℤ) (u v : Point) → u.x ≡ x → v.x ≡ x → ((a b : ℤ) → AlikeFrom (record { x = x; z = a }) (record { x = x; z = b })) → AlikeFrom u v
  upright_side x u v e e' each =
      subst (λ (k : ℤ). AlikeFrom (record { x = k; z = u.z }) v) (sym e)
      (subst (λ (k : ℤ). AlikeFrom (record { x = x; z = u.z }) (record { x = k; z = v.z })) (sym e') (each u.z v.z))

  level_side : (z : ℤ) (u v : Point) → u.z ≡ z → v.z ≡ z → ((a b : ℤ) → AlikeFrom (record { x = a; z = z }) (record { x = b; z = z })) → AlikeFrom u v
  level_side z u v e e' each =
      subst (λ (k : ℤ). AlikeFrom (record { x = u.x; z = k }) v) (sym e)
      (subst (λ (k : ℤ). AlikeFrom (record { x = u.x; z = z }) (record { x = v.x; z = k })) (sym e') (each u.x v.x))

  one_side : (side : ℕ) (u v : Point) → LiesOnSide window side u v → AlikeFrom u v
  one_side zero u v lies =
      upright_side window.x0 u v lies.0 lies.1
      (λ a b. multiple (a -ℤ b) (q.x -ℤ window.x0) (c.x -ℤ window.x0) _ _ (not_less _ _ inside.left) (not_less _ _ inside'.left)
      (upright window.x0 a b q) (upright window.x0 a b c))
  one_side (suc zero) u v lies =
      level_side (window.z1 +ℤ pos 1) u v lies.0 lies.1
      (λ a b. multiple (a -ℤ b) ((window.z1 +ℤ pos 1) -ℤ q.z) ((window.z1 +ℤ pos 1) -ℤ c.z) _ _ (not_less _ _ inside.top) (not_less _ _ inside'.top)
      (level_back (window.z1 +ℤ pos 1) a b q) (level_back (window.z1 +ℤ pos 1) a b c))
  one_side (suc (suc zero)) u v lies =
      upright_side (window.x1 +ℤ pos 1) u v lies.0 lies.1
      (λ a b. multiple (b -ℤ a) ((window.x1 +ℤ pos 1) -ℤ q.x) ((window.x1 +ℤ pos 1) -ℤ c.x) _ _ (not_less _ _ inside.right) (not_less _ _ inside'.right)
      (upright_back (window.x1 +ℤ pos 1) a b q) (upright_back (window.x1 +ℤ pos 1) a b c))
  one_side (suc (suc (suc side))) u v lies =
      level_side window.z0 u v lies.0 lies.1
      (λ a b. multiple (b -ℤ a) (q.z -ℤ window.z0) (c.z -ℤ window.z0) _ _ (not_less _ _ inside.bottom) (not_less _ _ inside'.bottom)
      (level window.z0 a b q) (level window.z0 a b c))

-- ---- the corner after an edge lies to its left

abbrev beyond : List Point → ℕ → ℕ
beyond corners edge = place_after (length corners) (place_after (length corners) edge)

record HasCornerLeft (corners : List Point) (edge : ℕ) : Type 0 where
  pub there : beyond corners edge < length corners
  pub left : pos 0 <ℤ side_of_edge corners edge (beyond corners edge)

corner_left : (corners : List Point) (edge : ℕ) → IsStrictlyConvex corners → edge < length corners → HasCornerLeft corners edge
corner_left corners edge convex there =
    let n : ℕ = length corners in
    let next : ℕ = place_after n edge in
    let next-in : next < n = place_after-in n edge there in
    record {
      there = place_after-in n next next-in;
      left = convex.left edge there (place_after n next) (place_after-in n next next-in) (place_after-twice n edge convex.enough there)
          (place_after-apart n next (omega (arith, convex.enough)));
    }

-- ---- links

no_way_out : (window : Window) (leaves enters : Polygon) (edge side : ℕ) (portal : Portal) → IsPolygon leaves → IsPolygon enters
    → All (IsInSquare window) leaves.corners → All (IsInSquare window) enters.corners → IsPortalOut leaves edge portal → IsPortalIn enters portal
    → LiesOnSide window side (corner_at leaves.corners edge) (corner_at leaves.corners (place_after (length leaves.corners) edge)) → ⊥
no_way_out window leaves enters edge side portal rules' rules'' square square' out into lies =
    let none : Point = record { x = pos 0; z = pos 0 } in
    let own = corner_left leaves.corners edge rules'.convex out.there in
    let other = corner_left enters.corners into.edge rules''.convex into.there in
    let u : Point = corner_at leaves.corners edge in
    let v : Point = corner_at leaves.corners (place_after (length leaves.corners) edge) in
    let c : Point = corner_at enters.corners (beyond enters.corners into.edge) in
    let S : Point → Point = λ p. scaled p.x p.z in
    let not_right : pos 0 ≤ℤ orient_of u v c =
    one_side window (corner_at leaves.corners (beyond leaves.corners edge)) c (square (beyond leaves.corners edge) none own.there)
    (square' (beyond enters.corners into.edge) none other.there) side u v lies own.left in
    let scaled_not_right : pos 0 ≤ℤ orient_of (S u) (S v) (S c) =
    subst (λ (m : ℤ). pos 0 ≤ℤ m) (sym (orient_of-scaled u v c)) (product-not_negative (pos 256) _ (omega (arith, ints)) not_right) in
    let ahead : pos 0 <ℤ orient_of (edge_begin enters into.edge) (edge_end enters into.edge) (S c) =
    subst (λ (m : ℤ). pos 0 <ℤ m)
    (sym (orient_of-scaled (corner_at enters.corners into.edge) (corner_at enters.corners (place_after (length enters.corners) into.edge)) c))
    (product-positive (pos 256) _ (omega (arith, ints)) other.left) in
    both (orient_of portal.right portal.left (S c)) (orient_of portal.left portal.right (S c))
    (not_right_of_both (edge_begin leaves edge) (edge_end leaves edge) portal.right portal.left out.lies (S c) scaled_not_right)
    (left_of_both (edge_begin enters into.edge) (edge_end enters into.edge) portal.left portal.right into.lies (S c) ahead)
    (orient_of-turned portal.left portal.right (S c))
  where
    both : (a b : ℤ) → pos 0 ≤ℤ a → pos 0 <ℤ b → a ≡ neg_ℤ b → ⊥
    both a b h k e = omega (arith, ints)

-- no link inside a fit tile leads over an edge that an entry of the tile's rim names
pub none_over_side : (setting : Setting) (tile : TileMesh) (link : Link) (entry : RimEdge) → IsFit setting tile → Contains tile.links link → Contains tile.rim entry
    → entry.poly ≡ link.from.index → entry.edge ≡ link.edge → ⊥
none_over_side setting tile link entry fit has has' poly edge =
    let window : Window = tile_window setting tile.tile in
    let InSquare : Polygon → Type 0 = λ polygon. All (IsInSquare window) polygon.corners in
    let inner = (All-contained (IsInnerLink tile) tile.links link fit.links has).through in
    let rim = All-contained (IsRimOf setting tile) tile.rim entry fit.rim has' in
    let same : rim.polygon ≡ inner.leaves = same_Some rim.polygon inner.leaves (sym rim.is_there ∙ ap (slice_get tile.polys) poly ∙ inner.is_left) in
    let Lies : Polygon → ℕ → Type 0 =
    λ polygon k. LiesOnSide window entry.side (corner_at polygon.corners k) (corner_at polygon.corners (place_after (length polygon.corners) k)) in
    no_way_out window inner.leaves inner.enters link.edge entry.side link.portal
    (All-read IsPolygon tile.polys link.from.index inner.leaves fit.polys inner.is_left) (All-read IsPolygon tile.polys link.to.index inner.enters fit.polys inner.is_entered)
    (All-read InSquare tile.polys link.from.index inner.leaves fit.square inner.is_left) (All-read InSquare tile.polys link.to.index inner.enters fit.square inner.is_entered)
    inner.out inner.into (subst (λ (polygon : Polygon). Lies polygon link.edge) same (subst (Lies rim.polygon) edge rim.lies))
