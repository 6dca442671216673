-- Which of two points comes first along an edge on a side of a tile, told by the positions; so portals over the side that overlap on the edge
-- have a common position.
use Rattle.std.proofs.Common.{◌≡◌, ℕ, zero, suc, ◌+◌, ◌<◌, ◌≤◌, ℤ, pos, ◌+ℤ◌, ◌-ℤ◌, ◌*ℤ◌, ◌≤ℤ◌, ◌<ℤ◌, [], ◌∷◌, refl, sym, subst, ◌∙◌, arith}
use Rattle.std.proofs.lemmas.Int.{ints}
use Rattle.nav_base.specs.declared.point.Point.{Point}
use Rattle.nav_base.specs.Point.{dot_of}
use Rattle.nav_base.proofs.Polynomials.{at, difference, equal, product, sum}
use Rattle.nav_base.proofs.Signs.{factor-positive}
use Rattle.nav_ground.specs.declared.cell.Window.{Window}
use Rattle.mesh_types.specs.BorderLinks.{scaled, side_portal}
use Rattle.mesh_types.specs.FitTiles.{LiesOnSide, RunsOver}
use Rattle.mesh_types.specs.Portals.{along}
use Rattle.tile_links.proofs.AxisWalks.{split, turned}

-- how far a point is along a way on a line of x, or of z, wherever the point lies
along_z : (x y u v p : ℤ) → along (record { x = x; z = u }) (record { x = x; z = v }) (record { x = y; z = p }) ≡ (v -ℤ u) *ℤ (p -ℤ u)
unfolding dot_of
along_z x y u v p =
    equal (x ∷ y ∷ u ∷ v ∷ p ∷ [])
    (sum (product (difference (at 0) (at 0)) (difference (at 1) (at 0))) (product (difference (at 3) (at 2)) (difference (at 4) (at 2))))
    (product (difference (at 3) (at 2)) (difference (at 4) (at 2))) refl

along_x : (z y u v p : ℤ) → along (record { x = u; z = z }) (record { x = v; z = z }) (record { x = p; z = y }) ≡ (v -ℤ u) *ℤ (p -ℤ u)
unfolding dot_of
along_x z y u v p =
    equal (z ∷ y ∷ u ∷ v ∷ p ∷ [])
    (sum (product (difference (at 3) (at 2)) (difference (at 4) (at 2))) (product (difference (at 0) (at 0)) (difference (at 1) (at 0))))
    (product (difference (at 3) (at 2)) (difference (at 4) (at 2))) refl

-- what is farther along a way up is greater, and along a way down less
higher : (u v p q : ℤ) → u <ℤ v → ((v -ℤ u) *ℤ (p -ℤ u)) <ℤ ((v -ℤ u) *ℤ (q -ℤ u)) → p <ℤ q
higher u v p q up less =
    apart p q (factor-positive (v -ℤ u) (q -ℤ p) (rise u v up) (more ((v -ℤ u) *ℤ (p -ℤ u)) ((v -ℤ u) *ℤ (q -ℤ p)) ((v -ℤ u) *ℤ (q -ℤ u)) (split u v p q) less))
  where
    rise : (a b : ℤ) → a <ℤ b → pos 0 <ℤ (b -ℤ a)
    rise a b h = omega (arith, ints)

    apart : (a b : ℤ) → pos 0 <ℤ (b -ℤ a) → a <ℤ b
    apart a b h = omega (arith, ints)

    more : (a b c : ℤ) → c ≡ a +ℤ b → a <ℤ c → pos 0 <ℤ b
    more a b c is h = omega (arith, ints)

lower : (u v p q : ℤ) → v <ℤ u → ((v -ℤ u) *ℤ (p -ℤ u)) <ℤ ((v -ℤ u) *ℤ (q -ℤ u)) → q <ℤ p
lower u v p q down less =
    apart q p (factor-positive (u -ℤ v) (p -ℤ q) (rise v u down)
    (subst (λ (n : ℤ). pos 0 <ℤ n) (turned u v p q)
    (more ((v -ℤ u) *ℤ (p -ℤ u)) ((v -ℤ u) *ℤ (q -ℤ p)) ((v -ℤ u) *ℤ (q -ℤ u)) (split u v p q) less)))
  where
    rise : (a b : ℤ) → a <ℤ b → pos 0 <ℤ (b -ℤ a)
    rise a b h = omega (arith, ints)

    apart : (a b : ℤ) → pos 0 <ℤ (b -ℤ a) → a <ℤ b
    apart a b h = omega (arith, ints)

    more : (a b c : ℤ) → c ≡ a +ℤ b → a <ℤ c → pos 0 <ℤ b
    more a b c is h = omega (arith, ints)

-- in whole cells
whole_less : (p q : ℕ) → (pos 16 *ℤ pos p) <ℤ (pos 16 *ℤ pos q) → p < q
whole_less p q h = omega (arith, ints)

sixteen : (u v : ℤ) → u <ℤ v → (pos 16 *ℤ u) <ℤ (pos 16 *ℤ v)
sixteen u v h = omega (arith, ints)

-- along z
along_up : (x y y' u v p q : ℤ) → u <ℤ v
    → along (record { x = x; z = u }) (record { x = x; z = v }) (record { x = y; z = p }) <ℤ along (record { x = x; z = u }) (record { x = x; z = v }) (record { x = y'; z = q })
    → p <ℤ q
along_up x y y' u v p q up less =
    higher u v p q up (subst (λ (n : ℤ). n <ℤ ((v -ℤ u) *ℤ (q -ℤ u))) (along_z x y u v p)
    (subst (λ (n : ℤ). along (record { x = x; z = u }) (record { x = x; z = v }) (record { x = y; z = p }) <ℤ n) (along_z x y' u v q) less))

along_down : (x y y' u v p q : ℤ) → v <ℤ u
    → along (record { x = x; z = u }) (record { x = x; z = v }) (record { x = y; z = p }) <ℤ along (record { x = x; z = u }) (record { x = x; z = v }) (record { x = y'; z = q })
    → q <ℤ p
along_down x y y' u v p q down less =
    lower u v p q down (subst (λ (n : ℤ). n <ℤ ((v -ℤ u) *ℤ (q -ℤ u))) (along_z x y u v p)
    (subst (λ (n : ℤ). along (record { x = x; z = u }) (record { x = x; z = v }) (record { x = y; z = p }) <ℤ n) (along_z x y' u v q) less))

-- along x
along_right : (z y y' u v p q : ℤ) → u <ℤ v
    → along (record { x = u; z = z }) (record { x = v; z = z }) (record { x = p; z = y }) <ℤ along (record { x = u; z = z }) (record { x = v; z = z }) (record { x = q; z = y' })
    → p <ℤ q
along_right z y y' u v p q up less =
    higher u v p q up (subst (λ (n : ℤ). n <ℤ ((v -ℤ u) *ℤ (q -ℤ u))) (along_x z y u v p)
    (subst (λ (n : ℤ). along (record { x = u; z = z }) (record { x = v; z = z }) (record { x = p; z = y }) <ℤ n) (along_x z y' u v q) less))

along_left : (z y y' u v p q : ℤ) → v <ℤ u
    → along (record { x = u; z = z }) (record { x = v; z = z }) (record { x = p; z = y }) <ℤ along (record { x = u; z = z }) (record { x = v; z = z }) (record { x = q; z = y' })
    → q <ℤ p
along_left z y y' u v p q down less =
    lower u v p q down (subst (λ (n : ℤ). n <ℤ ((v -ℤ u) *ℤ (q -ℤ u))) (along_x z y u v p)
    (subst (λ (n : ℤ). along (record { x = u; z = z }) (record { x = v; z = z }) (record { x = p; z = y }) <ℤ n) (along_x z y' u v q) less))

-- two ways overlap along a third: each begins before the other ends
pub record Overlaps (u v r l r' l' : Point) : Type 0 where
  pub before : along u v r' <ℤ along u v l
  pub after : along u v r <ℤ along u v l'

-- two ranges of positions have a common one
pub record HaveCommon (first last first' last' : ℕ) : Type 0 where
  pub one : first ≤ last'
  pub other : first' ≤ last

-- the ends of an edge on a side that runs over positions
ends_down : (a b : ℤ) (lo hi : ℕ) → lo < hi → b ≤ℤ pos lo → pos hi ≤ℤ a → b <ℤ a
ends_down a b lo hi some low high = omega (arith, ints)

-- a number below the next of another is no greater
below : (a b : ℕ) → a < b + 1 → a ≤ b
below a b h = omega (arith, h)

-- two portals over a side that overlap along an edge that runs over positions of the side
pub common_position : (side : ℕ) (window : Window) (u v : Point) (line line' : ℤ) (first last first' last' lo hi : ℕ) → side < 4 → lo < hi
    → LiesOnSide window side u v → RunsOver side u v lo hi
    → Overlaps (scaled u.x u.z) (scaled v.x v.z) (side_portal side line first last).right (side_portal side line first last).left
    (side_portal side line' first' last').right (side_portal side line' first' last').left
    → HaveCommon first last first' last'
common_position zero window u v line line' first last first' last' lo hi small some lies runs over =
    let P : ℤ → Type 0 = λ x. Overlaps (scaled u.x u.z) (scaled x v.z) (scaled line (pos (last + 1))) (scaled line (pos first)) (scaled line' (pos (last' + 1))) (scaled line' (pos first')) in
    let over' : P u.x = subst P (lies.1 ∙ sym lies.0) over in
    let down = sixteen v.z u.z (ends_down u.z v.z lo hi some runs.0 runs.1) in
    record {
      one = below first last' (whole_less _ _ (along_down (pos 16 *ℤ u.x) (pos 16 *ℤ line') (pos 16 *ℤ line) _ _ _ _ down over'.before));
      other = below first' last (whole_less _ _ (along_down (pos 16 *ℤ u.x) (pos 16 *ℤ line) (pos 16 *ℤ line') _ _ _ _ down over'.after));
    }
common_position (suc zero) window u v line line' first last first' last' lo hi small some lies runs over =
    let P : ℤ → Type 0 = λ z. Overlaps (scaled u.x u.z) (scaled v.x z) (scaled (pos (last + 1)) line) (scaled (pos first) line) (scaled (pos (last' + 1)) line') (scaled (pos first') line') in
    let over' : P u.z = subst P (lies.1 ∙ sym lies.0) over in
    let down = sixteen v.x u.x (ends_down u.x v.x lo hi some runs.0 runs.1) in
    record {
      one = below first last' (whole_less _ _ (along_left (pos 16 *ℤ u.z) (pos 16 *ℤ line') (pos 16 *ℤ line) _ _ _ _ down over'.before));
      other = below first' last (whole_less _ _ (along_left (pos 16 *ℤ u.z) (pos 16 *ℤ line) (pos 16 *ℤ line') _ _ _ _ down over'.after));
    }
common_position (suc (suc zero)) window u v line line' first last first' last' lo hi small some lies runs over =
    let P : ℤ → Type 0 = λ x. Overlaps (scaled u.x u.z) (scaled x v.z) (scaled line (pos first)) (scaled line (pos (last + 1))) (scaled line' (pos first')) (scaled line' (pos (last' + 1))) in
    let over' : P u.x = subst P (lies.1 ∙ sym lies.0) over in
    let up = sixteen u.z v.z (ends_down v.z u.z lo hi some runs.0 runs.1) in
    record {
      one = below first last' (whole_less _ _ (along_up (pos 16 *ℤ u.x) (pos 16 *ℤ line) (pos 16 *ℤ line') _ _ _ _ up over'.after));
      other = below first' last (whole_less _ _ (along_up (pos 16 *ℤ u.x) (pos 16 *ℤ line') (pos 16 *ℤ line) _ _ _ _ up over'.before));
    }
common_position (suc (suc (suc zero))) window u v line line' first last first' last' lo hi small some lies runs over =
    let P : ℤ → Type 0 = λ z. Overlaps (scaled u.x u.z) (scaled v.x z) (scaled (pos first) line) (scaled (pos (last + 1)) line) (scaled (pos first') line') (scaled (pos (last' + 1)) line') in
    let over' : P u.z = subst P (lies.1 ∙ sym lies.0) over in
    let up = sixteen u.x v.x (ends_down v.x u.x lo hi some runs.0 runs.1) in
    record {
      one = below first last' (whole_less _ _ (along_right (pos 16 *ℤ u.z) (pos 16 *ℤ line) (pos 16 *ℤ line') _ _ _ _ up over'.after));
      other = below first' last (whole_less _ _ (along_right (pos 16 *ℤ u.z) (pos 16 *ℤ line') (pos 16 *ℤ line) _ _ _ _ up over'.before));
    }
common_position (suc (suc (suc (suc side)))) window u v line line' first last first' last' lo hi small some lies runs over = absurd (omega (arith, small))
