-- Which columns of a row a triangle hits, and its shadow there.
use Rattle.std.proofs.Common.{◌≡◌, ℕ, ◌+◌, ◌-◌, ◌*◌, ◌≤◌, ◌<◌, ◌⊎◌, inl, inr, ℤ, pos, ◌+ℤ◌, ◌-ℤ◌, ◌*ℤ◌, ◌≤ℤ◌, refl, sym, ap, subst, arith, List, [], ◌∷◌}
use lib.IntN.{neg_ℤ}
use Rattle.std.specs.List.{All}
use Rattle.std.proofs.lemmas.Int.{ints}
use Rattle.std.proofs.lemmas.Bool.{cases_lt}
use Rattle.nav_base.proofs.Polynomials.{at, number, opposite, sum, difference, product, equal}
use Rattle.tri_raster.specs.declared.triangle.Tri.{Tri}
use Rattle.tri_raster.specs.declared.triangle.Spot.{Spot}
use Rattle.tri_raster.specs.declared.triangle.Bound.{Bound}
use Rattle.tri_raster.specs.Triangles.{Weights, count_of, x_of, y_of, z_of, IsOver, IsInside}
use Rattle.tri_raster.specs.Rasters.{IsBottom, IsHighest, IsShadow}
use Rattle.tri_raster.specs.Spots.{IsSpotOf}
use Rattle.tri_raster.specs.Bounds.{IsAbout, IsReached, line_crossing}
use Rattle.tri_raster.specs.Rows.{MeetsRow, shadow_of}
use Rattle.tri_raster.proofs.Divisions.{times_le, times_lt, factor_lt}
use Rattle.tri_raster.proofs.Spans.{Form, form_at, Covers}
use Rattle.tri_raster.proofs.Cells.{height_at, over_column}
use Rattle.tri_raster.proofs.Points.{IsPoint, mixed, corner_a, corner_b, corner_c, on_the_line, spot_point}

-- ---- a point inside the row

pub record IsInRow (tri : Tri) (z n deep : ℕ) : Type 0 where
  pub front : 16 * z * n < deep
  pub back : deep < (16 * z + 16) * n

-- some point inside the row
pub record HasInner (tri : Tri) (z : ℕ) : Type 0 where
  pub n : ℕ
  pub x : ℕ
  pub y : ℕ
  pub deep : ℕ
  pub is : IsPoint tri n x y deep
  pub front : 16 * z * n < deep
  pub back : deep < (16 * z + 16) * n

-- of two corners, one behind the row's front and one before its back
inner_of : (tri : Tri) (z ax ay az bx by bz : ℕ) → IsPoint tri 1 ax ay az → IsPoint tri 1 bx by bz → 16 * z < az → bz < 16 * z + 16 → HasInner tri z
inner_of tri z ax ay az bx by bz p q behind before = elim (cases_lt az (16 * z + 16)) [
  | inl near ↦ record { n = 1; x = ax; y = ay; deep = az; is = p; front = omega arith; back = omega arith }
  | inr far ↦ elim (cases_lt (16 * z) bz) [
    | inl near ↦ record { n = 1; x = bx; y = by; deep = bz; is = q; front = omega arith; back = omega arith }
    | inr below ↦ between far below
  ]
]
  where
    between : 16 * z + 16 ≤ az → bz ≤ 16 * z → HasInner tri z
    between far below =
        let w : ℕ = az - (16 * z + 8) in
        let u : ℕ = 16 * z + 8 - bz in
        let level = on_the_line (16 * z + 8) 1 bz 1 az w u (omega arith) (omega arith) in
        record {
          n = w * 1 + u * 1;
          x = w * bx + u * ax;
          y = w * by + u * ay;
          deep = w * bz + u * az;
          is = mixed tri 1 bx by bz 1 ax ay az w u q p;
          front = omega (arith, level, times_lt 0 (w + u) 8 (omega arith) (omega arith));
          back = omega (arith, level, times_lt 0 (w + u) 8 (omega arith) (omega arith));
        }

pub inner : (tri : Tri) (z : ℕ) → MeetsRow tri z → HasInner tri z
inner tri z meets = first meets.behind
  where
    second : (ax ay az : ℕ) → IsPoint tri 1 ax ay az → 16 * z < az → (tri.a.z < 16 * z + 16) ⊎ ((tri.b.z < 16 * z + 16) ⊎ (tri.c.z < 16 * z + 16)) → HasInner tri z
    second ax ay az p behind (inl h) = inner_of tri z ax ay az tri.a.x tri.a.y tri.a.z p (corner_a tri) behind h
    second ax ay az p behind (inr (inl h)) = inner_of tri z ax ay az tri.b.x tri.b.y tri.b.z p (corner_b tri) behind h
    second ax ay az p behind (inr (inr h)) = inner_of tri z ax ay az tri.c.x tri.c.y tri.c.z p (corner_c tri) behind h

    first : (16 * z < tri.a.z) ⊎ ((16 * z < tri.b.z) ⊎ (16 * z < tri.c.z)) → HasInner tri z
    first (inl h) = second tri.a.x tri.a.y tri.a.z (corner_a tri) h meets.before
    first (inr (inl h)) = second tri.b.x tri.b.y tri.b.z (corner_b tri) h meets.before
    first (inr (inr h)) = second tri.c.x tri.c.y tri.c.z (corner_c tri) h meets.before

-- ---- a point inside a column

-- a point strictly between the column's lines, and in the row, with enough of it added to a point inside the row
pushed : (tri : Tri) (x z n px y deep : ℕ) → IsPoint tri n px y deep → 16 * x * n < px → px < (16 * x + 16) * n → 16 * z * n ≤ deep → deep ≤ (16 * z + 16) * n → (i : HasInner tri z)
    → (p : Weights) × IsInside tri x z p
pushed tri x z n px y deep is left right front back i =
    let m : ℕ = 16 * x * i.n + i.x + 1 in
    let total = mixed tri n px y deep i.n i.x i.y i.deep m 1 is i.is in (
      total.point,
      record {
        some = omega (arith, total.count, some i.n i.deep i.front i.back, times_le 0 m n (omega arith));
        left = subst (λ (k : ℕ). 16 * x * k < x_of tri total.point) (sym total.count) (omega (arith, total.x_is, over m n px i.n i.x (16 * x) left (omega arith)));
        right = subst (λ (k : ℕ). x_of tri total.point < (16 * x + 16) * k) (sym total.count) (omega (arith, total.x_is, under m n px i.n i.x (16 * x + 16) right (omega arith)));
        front = subst (λ (k : ℕ). 16 * z * k < z_of tri total.point) (sym total.count) (omega (arith, total.z_is, ahead m n deep i.n i.deep (16 * z) front i.front));
        back = subst (λ (k : ℕ). z_of tri total.point < (16 * z + 16) * k) (sym total.count) (omega (arith, total.z_is, behind m n deep i.n i.deep (16 * z + 16) back i.back));
      },
    )
  where
    some : (n deep : ℕ) → 16 * z * n < deep → deep < (16 * z + 16) * n → 1 ≤ n
    some n deep p q = elim (cases_lt 0 n) [ inl more ↦ more | inr none ↦ absurd (let e : n ≡ 0 = omega arith in let f = ap (λ (k : ℕ). (16 * z + 16) * k) e in omega arith) ]

    over : (m n px n' px' k : ℕ) → k * n < px → k * n' + 1 ≤ m → k * (m * n + 1 * n') < m * px + 1 * px'
    over m n px n' px' k h big = omega (arith, times_le (k * n + 1) px m (omega arith))

    under : (m n px n' px' k : ℕ) → px < k * n → px' + 1 ≤ m → m * px + 1 * px' < k * (m * n + 1 * n')
    under m n px n' px' k h big = omega (arith, times_le (px + 1) (k * n) m (omega arith))

    ahead : (m n d n' d' k : ℕ) → k * n ≤ d → k * n' < d' → k * (m * n + 1 * n') < m * d + 1 * d'
    ahead m n d n' d' k h g = omega (arith, times_le (k * n) d m h)

    behind : (m n d n' d' k : ℕ) → d ≤ k * n → d' < k * n' → m * d + 1 * d' < k * (m * n + 1 * n')
    behind m n d n' d' k h g = omega (arith, times_le d (k * n) m h)

-- two spots of the row, one right of the column's left line and one left of its right line: the triangle hits the column
pub hit : (tri : Tri) (x z : ℕ) (s t : Spot) → IsSpotOf tri z s → IsSpotOf tri z t → 16 * x * s.n < s.x → t.x < (16 * x + 16) * t.n → HasInner tri z → (p : Weights) × IsInside tri x z p
hit tri x z s t p q right left i = elim (cases_lt s.x ((16 * x + 16) * s.n)) [
  | inl near ↦ pushed tri x z s.n s.x s.y (z_of tri p.point) (spot_point tri z s p) right near p.front p.back i
  | inr far ↦ elim (cases_lt (16 * x * t.n) t.x) [
    | inl near ↦ pushed tri x z t.n t.x t.y (z_of tri q.point) (spot_point tri z t q) near left q.front q.back i
    | inr below ↦ between far below
  ]
]
  where
    both_le : (w u n n' k d d' : ℕ) → k * n ≤ d → k * n' ≤ d' → k * (w * n + u * n') ≤ w * d + u * d'
    both_le w u n n' k d d' p q = omega (arith, times_le (k * n) d w p, times_le (k * n') d' u q)

    both_ge : (w u n n' k d d' : ℕ) → d ≤ k * n → d' ≤ k * n' → w * d + u * d' ≤ k * (w * n + u * n')
    both_ge w u n n' k d d' p q = omega (arith, times_le d (k * n) w p, times_le d' (k * n') u q)

    between : (16 * x + 16) * s.n ≤ s.x → t.x ≤ 16 * x * t.n → (r : Weights) × IsInside tri x z r
    between far below =
        let k : ℕ = 16 * x + 8 in
        let w : ℕ = s.x - k * s.n in
        let u : ℕ = k * t.n - t.x in
        let level = on_the_line k t.n t.x s.n s.x w u (omega (arith, p.some)) (omega (arith, q.some)) in
        let some : 1 ≤ w = omega (arith, p.some) in
        let more : 1 ≤ w * t.n = omega (arith, q.some, times_le 1 w t.n some) in
        pushed tri x z (w * t.n + u * s.n) (w * t.x + u * s.x) (w * t.y + u * s.y) (w * z_of tri q.point + u * z_of tri p.point)
        (mixed tri t.n t.x t.y (z_of tri q.point) s.n s.x s.y (z_of tri p.point) w u (spot_point tri z t q) (spot_point tri z s p))
        (omega arith) (omega arith)
        (both_le w u t.n s.n (16 * z) (z_of tri q.point) (z_of tri p.point) q.front p.front)
        (both_ge w u t.n s.n (16 * z + 16) (z_of tri q.point) (z_of tri p.point) q.back p.back)
        i

-- ---- no others

-- where all spots lie right of a column, or on its right line, no point of the triangle in the row is inside it; and where all lie left of it
pub all_right : (tri : Tri) (x z : ℕ) (spots : List Spot) → Covers tri z spots → All (λ (s : Spot). (16 * x + 16) * s.n ≤ s.x) spots → (p : Weights) → IsInside tri x z p → ⊥
all_right tri x z spots covers all p is = low (x_of tri p) ((16 * x + 16) * count_of p) is.right
    (subst (λ (n : ℤ). pos 0 ≤ℤ n) (is_form (count_of p) (x_of tri p) (y_of tri p))
    (covers.holds form (λ i d within. subst (λ (n : ℤ). pos 0 ≤ℤ n) (sym (is_form _ _ _)) (high _ _ (all i d within))) p (omega (arith, is.front)) (omega (arith, is.back))))
  where
    form : Form
    form = record { n = neg_ℤ (pos (16 * x + 16)); x = pos 1; y = pos 0 }

    is_form : (n x' y : ℕ) → form_at (record { n = neg_ℤ (pos (16 * x + 16)); x = pos 1; y = pos 0 }) n x' y ≡ pos x' -ℤ pos ((16 * x + 16) * n)
    is_form n x1 y = equal (pos (16 * x + 16) ∷ pos n ∷ pos x1 ∷ pos y ∷ []) (sum (sum (product (opposite (at 0)) (at 1)) (product (number (pos 1)) (at 2))) (product (number (pos 0)) (at 3))) (difference (at 2) (product (at 0) (at 1))) refl

    high : (a b : ℕ) → b ≤ a → pos 0 ≤ℤ (pos a -ℤ pos b)
    high a b h = omega (arith, ints)

    low : (a b : ℕ) → a < b → pos 0 ≤ℤ (pos a -ℤ pos b) → ⊥
    low a b h g = omega (arith, ints)

pub all_left : (tri : Tri) (x z : ℕ) (spots : List Spot) → Covers tri z spots → All (λ (s : Spot). s.x ≤ 16 * x * s.n) spots → (p : Weights) → IsInside tri x z p → ⊥
all_left tri x z spots covers all p is = low (16 * x * count_of p) (x_of tri p) is.left
    (subst (λ (n : ℤ). pos 0 ≤ℤ n) (is_form (count_of p) (x_of tri p) (y_of tri p))
    (covers.holds form (λ i d within. subst (λ (n : ℤ). pos 0 ≤ℤ n) (sym (is_form _ _ _)) (high _ _ (all i d within))) p (omega (arith, is.front)) (omega (arith, is.back))))
  where
    form : Form
    form = record { n = pos (16 * x); x = neg_ℤ (pos 1); y = pos 0 }

    is_form : (n x1 y : ℕ) → form_at (record { n = pos (16 * x); x = neg_ℤ (pos 1); y = pos 0 }) n x1 y ≡ pos (16 * x * n) -ℤ pos x1
    is_form n x1 y = equal (pos (16 * x) ∷ pos n ∷ pos x1 ∷ pos y ∷ []) (sum (sum (product (at 0) (at 1)) (product (opposite (number (pos 1))) (at 2))) (product (number (pos 0)) (at 3))) (difference (product (at 0) (at 1)) (at 2)) refl

    high : (a b : ℕ) → b ≤ a → pos 0 ≤ℤ (pos a -ℤ pos b)
    high a b h = omega (arith, ints)

    low : (a b : ℕ) → a < b → pos 0 ≤ℤ (pos a -ℤ pos b) → ⊥
    low a b h g = omega (arith, ints)

-- ---- the shadow of a column that is hit

-- a bound about all spots of a column and all crossings of its lines
pub record IsAboutAll (x : ℕ) (spots : List Spot) (bound : Bound) : Type 0 where
  pub spots_there : All (λ (s : Spot). 16 * x * s.n ≤ s.x → s.x ≤ (16 * x + 16) * s.n → IsAbout s bound) spots
  pub crossings : All (λ (p : Spot). All (λ (q : Spot). (k : ℕ) → p.x < 16 * k * p.n → 16 * k * q.n < q.x → (k ≡ x) ⊎ (k ≡ x + 1) → IsAbout (line_crossing p q k) bound) spots) spots

low_at : (b n y : ℕ) → neg_ℤ (pos b) *ℤ pos n +ℤ pos 1 *ℤ pos y ≡ pos y -ℤ pos (b * n)
low_at b n y = equal (pos b ∷ pos n ∷ pos y ∷ []) (sum (product (opposite (at 0)) (at 1)) (product (number (pos 1)) (at 2))) (difference (at 2) (product (at 0) (at 1))) refl

high_at : (b n y : ℕ) → pos b *ℤ pos n +ℤ neg_ℤ (pos 1) *ℤ pos y ≡ pos (b * n) -ℤ pos y
high_at b n y = equal (pos b ∷ pos n ∷ pos y ∷ []) (sum (product (at 0) (at 1)) (product (opposite (number (pos 1))) (at 2))) (difference (product (at 0) (at 1)) (at 2)) refl

not_less : (a b : ℕ) → b ≤ a → pos 0 ≤ℤ (pos a -ℤ pos b)
not_less a b h = omega (arith, ints)

at_least : (a b : ℕ) → pos 0 ≤ℤ (pos a -ℤ pos b) → b ≤ a
at_least a b h = omega (arith, ints)

module _ (tri : Tri) (x z : ℕ) (spots : List Spot) (bound : Bound) (covers : Covers tri z spots) (some : All (λ (s : Spot). 1 ≤ s.n) spots) (about : IsAboutAll x spots bound) where
  pub below : (p : Weights) → IsOver tri x z p → bound.low * count_of p ≤ y_of tri p
  below p over = at_least _ _ (subst (λ (n : ℤ). pos 0 ≤ℤ n) (low_at bound.low (count_of p) (y_of tri p))
      (over_column (neg_ℤ (pos bound.low)) (pos 1) tri x z spots covers some
      (λ i d within left right. holds (about.spots_there i d within left right))
      (λ i d within j e reached k before behind which. holds (about.crossings i d within j e reached k before behind which))
      p over))
    where
      holds : {s : Spot} → IsAbout s bound → pos 0 ≤ℤ height_at (neg_ℤ (pos bound.low)) (pos 1) s.n s.y
      holds {s} is = subst (λ (n : ℤ). pos 0 ≤ℤ n) (sym (low_at bound.low s.n s.y)) (not_less _ _ is.low)

  pub above : (p : Weights) → IsOver tri x z p → y_of tri p ≤ bound.high * count_of p
  above p over = at_least _ _ (subst (λ (n : ℤ). pos 0 ≤ℤ n) (high_at bound.high (count_of p) (y_of tri p))
      (over_column (pos bound.high) (neg_ℤ (pos 1)) tri x z spots covers some
      (λ i d within left right. holds (about.spots_there i d within left right))
      (λ i d within j e reached k before behind which. holds (about.crossings i d within j e reached k before behind which))
      p over))
    where
      holds : {s : Spot} → IsAbout s bound → pos 0 ≤ℤ height_at (pos bound.high) (neg_ℤ (pos 1)) s.n s.y
      holds {s} is = subst (λ (n : ℤ). pos 0 ≤ℤ n) (sym (high_at bound.high s.n s.y)) (not_less _ _ is.high)

  pub is_bottom : IsReached tri x z bound → IsBottom tri x z bound.low
  is_bottom r = record {
    below = below;
    greatest = λ other under. let most : other < bound.low + 1 = factor_lt other (bound.low + 1) (count_of r.low_point) (omega (arith, under r.low_point r.low_over, r.low)) in omega arith;
  }

  pub is_highest : IsReached tri x z bound → IsHighest tri x z bound.high
  is_highest r = record {
    above = above;
    least = λ other over. let most : bound.high < other + 1 = factor_lt bound.high (other + 1) (count_of r.high_point) (omega (arith, over r.high_point r.high_over, r.high)) in omega arith;
  }

  pub is_shadow : IsReached tri x z bound → (p : Weights) → IsInside tri x z p → IsShadow (tri ∷ []) x z (shadow_of bound tri.area)
  is_shadow r p hits = record {
    tri = tri;
    listed = (0, omega arith, refl);
    point = p;
    hit = hits;
    bottom = is_bottom r;
    highest = bound.high;
    is_highest = is_highest r;
    top = refl;
    area = refl;
  }
