-- Sums of points of a triangle are points of it.
use Rattle.std.proofs.Common.{◌≡◌, ℕ, ◌+◌, ◌-◌, ◌*◌, ◌≤◌, ◌<◌, refl, sym, ◌∙◌, ap, subst, arith, [], ◌∷◌, Bool, true, false, cond}
use Rattle.std.specs.Prelude.{nat_le, nat_lt, ◌&&◌}
use Rattle.std.specs.List.{All}
use Rattle.std.proofs.lemmas.List.Elements.{All-nil, All-cons, All-append}
use Rattle.tri_raster.specs.declared.triangle.Corner3.{Corner3}
use Rattle.tri_raster.specs.declared.triangle.Tri.{Tri}
use Rattle.tri_raster.specs.declared.triangle.Spot.{Spot}
use Rattle.tri_raster.specs.Triangles.{Weights, count_of, x_of, y_of, z_of, IsOver, IsTriangle, IsCorner}
use Rattle.tri_raster.specs.Spots.{IsSpotOf, IsSized, spot_of, crossing, corner_spots, edge_spots, row_spots}
use Rattle.tri_raster.specs.Bounds.{line_crossing}
use Rattle.tri_raster.proofs.Divisions.{times_le}

-- a point of a triangle times n has these sums
pub record IsPoint (tri : Tri) (n x y z : ℕ) : Type 0 where
  pub point : Weights
  pub count : count_of point ≡ n
  pub x_is : x_of tri point ≡ x
  pub y_is : y_of tri point ≡ y
  pub z_is : z_of tri point ≡ z

-- so many times one point and so many times another
pub mixed : (tri : Tri) (n x y z n' x' y' z' w u : ℕ) → IsPoint tri n x y z → IsPoint tri n' x' y' z' → IsPoint tri (w * n + u * n') (w * x + u * x') (w * y + u * y') (w * z + u * z')
mixed tri n x y z n' x' y' z' w u p q = record {
  point = sum_of;
  count = counted ∙ ap (λ k. w * k + u * count_of q.point) p.count ∙ ap (λ k. w * n + u * k) q.count;
  x_is = along tri.a.x tri.b.x tri.c.x ∙ ap (λ k. w * k + u * x_of tri q.point) p.x_is ∙ ap (λ k. w * x + u * k) q.x_is;
  y_is = along tri.a.y tri.b.y tri.c.y ∙ ap (λ k. w * k + u * y_of tri q.point) p.y_is ∙ ap (λ k. w * y + u * k) q.y_is;
  z_is = along tri.a.z tri.b.z tri.c.z ∙ ap (λ k. w * k + u * z_of tri q.point) p.z_is ∙ ap (λ k. w * z + u * k) q.z_is;
}
  where
    sum_of : Weights
    sum_of = record { u = w * p.point.u + u * q.point.u; v = w * p.point.v + u * q.point.v; w = w * p.point.w + u * q.point.w }

    plain : (w u a b c a' b' c' : ℕ) → (w * a + u * a') + (w * b + u * b') + (w * c + u * c') ≡ w * (a + b + c) + u * (a' + b' + c')
    plain w u a b c a' b' c' = omega arith

    counted : count_of sum_of ≡ w * count_of p.point + u * count_of q.point
    counted = plain w u p.point.u p.point.v p.point.w q.point.u q.point.v q.point.w

    weighed : (w u a b c a' b' c' i j k : ℕ) → (w * a + u * a') * i + (w * b + u * b') * j + (w * c + u * c') * k ≡ w * (a * i + b * j + c * k) + u * (a' * i + b' * j + c' * k)
    weighed w u a b c a' b' c' i j k = omega arith

    along : (i j k : ℕ) → sum_of.u * i + sum_of.v * j + sum_of.w * k ≡ w * (p.point.u * i + p.point.v * j + p.point.w * k) + u * (q.point.u * i + q.point.v * j + q.point.w * k)
    along i j k = weighed w u p.point.u p.point.v p.point.w q.point.u q.point.v q.point.w i j k

-- the corners
pub corner_a : (tri : Tri) → IsPoint tri 1 tri.a.x tri.a.y tri.a.z
corner_a tri = record { point = record { u = 1; v = 0; w = 0 }; count = refl; x_is = omega arith; y_is = omega arith; z_is = omega arith }

pub corner_b : (tri : Tri) → IsPoint tri 1 tri.b.x tri.b.y tri.b.z
corner_b tri = record { point = record { u = 0; v = 1; w = 0 }; count = refl; x_is = omega arith; y_is = omega arith; z_is = omega arith }

pub corner_c : (tri : Tri) → IsPoint tri 1 tri.c.x tri.c.y tri.c.z
corner_c tri = record { point = record { u = 0; v = 0; w = 1 }; count = refl; x_is = omega arith; y_is = omega arith; z_is = omega arith }

-- where two weights are the distances from a line, the sum lies on it
pub on_the_line : (k ln lx rn rx w u : ℕ) → w + k * rn ≡ rx → u + lx ≡ k * ln → w * lx + u * rx ≡ k * (w * ln + u * rn)
on_the_line k ln lx rn rx w u e e' = omega (arith, ap (λ n. u * n) e, ap (λ n. w * n) e')

pub spot_point : (tri : Tri) (z : ℕ) (s : Spot) (p : IsSpotOf tri z s) → IsPoint tri s.n s.x s.y (z_of tri p.point)
spot_point tri z s p = record { point = p.point; count = p.count; x_is = p.x; y_is = p.y; z_is = refl }

pub point_spot : (tri : Tri) (z : ℕ) (s : Spot) (deep : ℕ) → 1 ≤ s.n → IsPoint tri s.n s.x s.y deep → 16 * z * s.n ≤ deep → deep ≤ (16 * z + 16) * s.n → IsSpotOf tri z s
point_spot tri z s deep some p front back = record { point = p.point; some = some; count = p.count; x = p.x_is; y = p.y_is; front = omega (arith, p.z_is); back = omega (arith, p.z_is) }

-- a spot over a column is a point over it
pub spot_over : (tri : Tri) (x z : ℕ) (s : Spot) (p : IsSpotOf tri z s) → 16 * x * s.n ≤ s.x → s.x ≤ (16 * x + 16) * s.n → IsOver tri x z p.point
spot_over tri x z s p left right = record {
  some = omega (arith, p.some, p.count);
  left = subst (λ (n : ℕ). 16 * x * n ≤ x_of tri p.point) (sym p.count) (omega (arith, p.x));
  right = subst (λ (n : ℕ). x_of tri p.point ≤ (16 * x + 16) * n) (sym p.count) (omega (arith, p.x));
  front = subst (λ (n : ℕ). 16 * z * n ≤ z_of tri p.point) (sym p.count) p.front;
  back = subst (λ (n : ℕ). z_of tri p.point ≤ (16 * z + 16) * n) (sym p.count) p.back;
}

-- the crossing of a line by the segment between two spots of a row is a spot of it
pub line_spot : (tri : Tri) (z k : ℕ) (left right : Spot) → left.x < 16 * k * left.n → 16 * k * right.n < right.x → IsSpotOf tri z left → IsSpotOf tri z right → IsSpotOf tri z (line_crossing left right k)
line_spot tri z k left right before behind p q = point_spot tri z (line_crossing left right k) (w * z_of tri p.point + u * z_of tri q.point)
    (omega (arith, times_le 1 w left.n (omega arith), p.some))
    (subst (λ (n : ℕ). IsPoint tri (w * left.n + u * right.n) n (w * left.y + u * right.y) (w * z_of tri p.point + u * z_of tri q.point))
    (on_the_line (16 * k) left.n left.x right.n right.x w u (omega arith) (omega arith))
    (mixed tri left.n left.x left.y (z_of tri p.point) right.n right.x right.y (z_of tri q.point) w u (spot_point tri z left p) (spot_point tri z right q)))
    (both_le w u left.n right.n (16 * z) (z_of tri p.point) (z_of tri q.point) p.front q.front)
    (both_ge w u left.n right.n (16 * z + 16) (z_of tri p.point) (z_of tri q.point) p.back q.back)
  where
    w : ℕ
    w = right.x - 16 * k * right.n

    u : ℕ
    u = 16 * k * left.n - left.x

    both_le : (w u n n' k d d' : ℕ) → k * n ≤ d → k * n' ≤ d' → k * (w * n + u * n') ≤ w * d + u * d'
    both_le w u n n' k d d' p q = omega (arith, times_le (k * n) d w p, times_le (k * n') d' u q)

    both_ge : (w u n n' k d d' : ℕ) → d ≤ k * n → d' ≤ k * n' → w * d + u * d' ≤ k * (w * n + u * n')
    both_ge w u n n' k d d' p q = omega (arith, times_le d (k * n) w p, times_le d' (k * n') u q)

-- the spots of a row
edge_point : (tri : Tri) (z line : ℕ) (a b : Corner3) → IsPoint tri 1 a.x a.y a.z → IsPoint tri 1 b.x b.y b.z → a.z < line → line < b.z → 16 * z ≤ line → line ≤ 16 * z + 16 → IsSpotOf tri z (crossing a b line)
edge_point tri z line a b p q low high front back = point_spot tri z (crossing a b line) (line * (b.z - a.z)) (omega arith)
    (subst (λ (n : ℕ). IsPoint tri n (w * a.x + u * b.x) (w * a.y + u * b.y) (line * (b.z - a.z))) (whole a.z line b.z low high)
    (subst (λ (n : ℕ). IsPoint tri (w * 1 + u * 1) (w * a.x + u * b.x) (w * a.y + u * b.y) n)
    (on_the_line line 1 a.z 1 b.z w u (omega arith) (omega arith) ∙ ap (λ n. line * n) (whole a.z line b.z low high))
    (mixed tri 1 a.x a.y a.z 1 b.x b.y b.z w u p q)))
    (times_le (16 * z) line (b.z - a.z) front)
    (times_le line (16 * z + 16) (b.z - a.z) back)
  where
    w : ℕ
    w = b.z - line

    u : ℕ
    u = line - a.z

    whole : (a l b : ℕ) → a < l → l < b → (b - l) * 1 + (l - a) * 1 ≡ b - a
    whole a l b p q = omega arith

-- a corner of a triangle, within its limits
pub record IsCornerOf (tri : Tri) (c : Corner3) : Type 0 where
  pub point : IsPoint tri 1 c.x c.y c.z
  pub corner : IsCorner c

corner_all : (P : Spot → Type 0) (c : Corner3) (z : ℕ) → (16 * z ≤ c.z → c.z ≤ 16 * z + 16 → P (spot_of c)) → All P (corner_spots c z)
corner_all P c z is = chosen (nat_le (16 * z) c.z) (nat_le c.z (16 * z + 16)) (λ e. grind arith) (λ e. grind arith)
  where
    chosen : (a b : Bool) → (a ≡ true → 16 * z ≤ c.z) → (b ≡ true → c.z ≤ 16 * z + 16) → All P (cond (a && b) (spot_of c ∷ []) [])
    chosen true true f g = All-cons P (spot_of c) [] (is (f refl) (g refl)) (All-nil P)
    chosen true false f g = All-nil P
    chosen false b f g = All-nil P

edge_all : (P : Spot → Type 0) (a b : Corner3) (line : ℕ) → (a.z < line → line < b.z → P (crossing a b line)) → (b.z < line → line < a.z → P (crossing b a line)) → All P (edge_spots a b line)
edge_all P a b line up down =
    chosen (nat_lt a.z line) (nat_lt line b.z) (nat_lt b.z line) (nat_lt line a.z) (λ e. grind arith) (λ e. grind arith) (λ e. grind arith) (λ e. grind arith)
  where
    one : (s : Spot) → P s → All P (s ∷ [])
    one s is = All-cons P s [] is (All-nil P)

    chosen : (s t s' t' : Bool) → (s ≡ true → a.z < line) → (t ≡ true → line < b.z) → (s' ≡ true → b.z < line) → (t' ≡ true → line < a.z)
        → All P (cond (s && t) (crossing a b line ∷ []) (cond (s' && t') (crossing b a line ∷ []) []))
    chosen true true s' t' f g f' g' = one (crossing a b line) (up (f refl) (g refl))
    chosen true false true true f g f' g' = one (crossing b a line) (down (f' refl) (g' refl))
    chosen false t true true f g f' g' = one (crossing b a line) (down (f' refl) (g' refl))
    chosen true false true false f g f' g' = All-nil P
    chosen true false false t' f g f' g' = All-nil P
    chosen false t true false f g f' g' = All-nil P
    chosen false t false t' f g f' g' = All-nil P

-- what holds of the corners in a row and of the crossings of edges with its lines holds of all spots of the row
row_all : (P : Spot → Type 0) (tri : Tri) (z : ℕ) → IsTriangle tri
    → ((c : Corner3) → IsCornerOf tri c → 16 * z ≤ c.z → c.z ≤ 16 * z + 16 → P (spot_of c))
    → ((line : ℕ) (a b : Corner3) → 16 * z ≤ line → line ≤ 16 * z + 16 → IsCornerOf tri a → IsCornerOf tri b → a.z < line → line < b.z → P (crossing a b line))
    → All P (row_spots tri z)
unfolding row_spots
row_all P tri z is corner edge =
    let a : IsCornerOf tri tri.a = record { point = corner_a tri; corner = is.a } in
    let b : IsCornerOf tri tri.b = record { point = corner_b tri; corner = is.b } in
    let c : IsCornerOf tri tri.c = record { point = corner_c tri; corner = is.c } in
    let low : 16 * z ≤ 16 * z = omega arith in
    let low' : 16 * z ≤ 16 * z + 16 = omega arith in
    let high' : 16 * z + 16 ≤ 16 * z + 16 = omega arith in
    All-append P _ _ (All-append P _ _ (All-append P _ _ (All-append P _ _ (All-append P _ _ (All-append P _ _ (All-append P _ _ (All-append P _ _
    (corner_all P tri.a z (corner tri.a a)) (corner_all P tri.b z (corner tri.b b))) (corner_all P tri.c z (corner tri.c c)))
    (edge_all P tri.a tri.b (16 * z) (edge (16 * z) tri.a tri.b low low' a b) (edge (16 * z) tri.b tri.a low low' b a)))
    (edge_all P tri.b tri.c (16 * z) (edge (16 * z) tri.b tri.c low low' b c) (edge (16 * z) tri.c tri.b low low' c b)))
    (edge_all P tri.c tri.a (16 * z) (edge (16 * z) tri.c tri.a low low' c a) (edge (16 * z) tri.a tri.c low low' a c)))
    (edge_all P tri.a tri.b (16 * z + 16) (edge (16 * z + 16) tri.a tri.b low' high' a b) (edge (16 * z + 16) tri.b tri.a low' high' b a)))
    (edge_all P tri.b tri.c (16 * z + 16) (edge (16 * z + 16) tri.b tri.c low' high' b c) (edge (16 * z + 16) tri.c tri.b low' high' c b)))
    (edge_all P tri.c tri.a (16 * z + 16) (edge (16 * z + 16) tri.c tri.a low' high' c a) (edge (16 * z + 16) tri.a tri.c low' high' a c))

pub row_spots_are : (tri : Tri) (z : ℕ) → IsTriangle tri → All (IsSpotOf tri z) (row_spots tri z)
row_spots_are tri z is = row_all (IsSpotOf tri z) tri z is
    (λ c of front back. point_spot tri z (spot_of c) c.z (omega arith) of.point (omega (arith, front)) (omega (arith, back)))
    (λ line a b front back p q low high. edge_point tri z line a b p.point q.point low high front back)

pub row_spots_fit : (tri : Tri) (z : ℕ) → IsTriangle tri → All IsSized (row_spots tri z)
row_spots_fit tri z is = row_all IsSized tri z is
    (λ c of front back. record { some = omega arith; few = omega arith; x = omega (arith, of.corner.x); y = omega (arith, of.corner.y) })
    (λ line a b front back p q low high. record {
      some = omega (arith, low, high);
      few = omega (arith, q.corner.z);
      x = mixed_le a.z line b.z a.x b.x 16384 low high p.corner.x q.corner.x;
      y = mixed_le a.z line b.z a.y b.y 8190 low high p.corner.y q.corner.y;
    })
  where
    mixed_le : (a line b x x' most : ℕ) → a < line → line < b → x ≤ most → x' ≤ most → (b - line) * x + (line - a) * x' ≤ most * (b - a)
    mixed_le a line b x x' most low high p q =
        let whole : (b - line) + (line - a) ≡ b - a = omega (arith, low, high) in
        omega (arith, times_le x most (b - line) p, times_le x' most (line - a) q, ap (λ (n : ℕ). n * most) whole)
