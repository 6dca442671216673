-- Points over a column, from the spots of its row.
use Rattle.std.proofs.Common.{◌≡◌, ℕ, ◌+◌, ◌-◌, ◌*◌, ◌≤◌, ◌<◌, ℤ, pos, ◌+ℤ◌, ◌-ℤ◌, ◌*ℤ◌, ◌≤ℤ◌, ◌<ℤ◌, List, [], ◌∷◌, ◌⊎◌, inl, inr, refl, sym, subst, arith}
use Rattle.std.specs.List.{All}
use Rattle.std.specs.Prelude.{slice_index_or}
use Rattle.std.proofs.lemmas.Int.{ints}
use lib.IntN.{neg_ℤ}
use Rattle.nav_base.proofs.Polynomials.{at, opposite, sum, difference, product, equal}
use Rattle.tri_raster.specs.declared.triangle.Tri.{Tri}
use Rattle.tri_raster.specs.declared.triangle.Spot.{Spot}
use Rattle.tri_raster.specs.Triangles.{Weights, count_of, x_of, y_of, IsOver}
use Rattle.tri_raster.specs.Bounds.{line_crossing}
use Rattle.tri_raster.proofs.Cuts.{crossed, less_both, IsStrip, two_cuts}
use Rattle.tri_raster.proofs.Spans.{Form, form_at, Covers, left_over}

-- the forms of a line between columns: what lies right of it, and left of it
abbrev pub right_of : ℕ → Spot → ℤ
right_of k s = pos s.x -ℤ pos (k * s.n)

abbrev pub left_of : ℕ → Spot → ℤ
left_of k s = pos (k * s.n) -ℤ pos s.x

-- a form of n and y
abbrev pub height_at : ℤ → ℤ → ℕ → ℕ → ℤ
height_at a c n y = a *ℤ pos n +ℤ c *ℤ pos y

-- such a form where a segment crosses a line
crossing_height : (a c : ℤ) (k ln lx ly rn rx ry w u : ℕ) → w + k * rn ≡ rx → u + lx ≡ k * ln
    → crossed (pos rx -ℤ pos (k * rn)) (height_at a c rn ry) (pos lx -ℤ pos (k * ln)) (height_at a c ln ly) ≡ height_at a c (w * ln + u * rn) (w * ly + u * ry)
crossing_height a c k ln lx ly rn rx ry w u e e' =
    let P : ℕ → Type 0 = λ n. crossed (pos n -ℤ pos (k * rn)) (height_at a c rn ry) (pos lx -ℤ pos (k * ln)) (height_at a c ln ly) ≡ height_at a c (w * ln + u * rn) (w * ly + u * ry) in
    let Q : ℕ → Type 0 = λ n. crossed (pos (w + k * rn) -ℤ pos (k * rn)) (height_at a c rn ry) (pos lx -ℤ pos n) (height_at a c ln ly) ≡ height_at a c (w * ln + u * rn) (w * ly + u * ry) in
    subst P e (subst Q e' straight)
  where
    straight : crossed (pos (w + k * rn) -ℤ pos (k * rn)) (height_at a c rn ry) (pos lx -ℤ pos (u + lx)) (height_at a c ln ly) ≡ height_at a c (w * ln + u * rn) (w * ly + u * ry)
    straight = equal (pos w ∷ pos u ∷ pos k ∷ pos ln ∷ pos lx ∷ pos ly ∷ pos rn ∷ pos ry ∷ a ∷ c ∷ [])
        (difference
        (product (difference (sum (at 0) (product (at 2) (at 6))) (product (at 2) (at 6))) (sum (product (at 8) (at 3)) (product (at 9) (at 5))))
        (product (difference (at 4) (sum (at 1) (at 4))) (sum (product (at 8) (at 6)) (product (at 9) (at 7)))))
        (sum (product (at 8) (sum (product (at 0) (at 3)) (product (at 1) (at 6)))) (product (at 9) (sum (product (at 0) (at 5)) (product (at 1) (at 7)))))
        refl

pub crossing_right : (a c : ℤ) (k : ℕ) (left right : Spot) → left.x < 16 * k * left.n → 16 * k * right.n < right.x
    → pos 0 ≤ℤ height_at a c (line_crossing left right k).n (line_crossing left right k).y
    → pos 0 ≤ℤ crossed (right_of (16 * k) right) (height_at a c right.n right.y) (right_of (16 * k) left) (height_at a c left.n left.y)
crossing_right a c k left right before behind holds =
    subst (λ (n : ℤ). pos 0 ≤ℤ n) (sym (crossing_height a c (16 * k) left.n left.x left.y right.n right.x right.y (right.x - 16 * k * right.n) (16 * k * left.n - left.x) (omega arith) (omega arith))) holds

turned : (fp hp fq hq : ℤ) → crossed fp hp fq hq ≡ crossed (neg_ℤ fq) hq (neg_ℤ fp) hp
turned fp hp fq hq = equal (fp ∷ hp ∷ fq ∷ hq ∷ []) (difference (product (at 0) (at 3)) (product (at 2) (at 1))) (difference (product (opposite (at 2)) (at 1)) (product (opposite (at 0)) (at 3))) refl

pub crossing_left : (a c : ℤ) (k : ℕ) (left right : Spot) → left.x < 16 * k * left.n → 16 * k * right.n < right.x
    → pos 0 ≤ℤ height_at a c (line_crossing left right k).n (line_crossing left right k).y
    → pos 0 ≤ℤ crossed (left_of (16 * k) left) (height_at a c left.n left.y) (left_of (16 * k) right) (height_at a c right.n right.y)
crossing_left a c k left right before behind holds =
    subst (λ (n : ℤ). pos 0 ≤ℤ n) (sym (turned (left_of (16 * k) left) (height_at a c left.n left.y) (left_of (16 * k) right) (height_at a c right.n right.y)))
    (subst (λ (n : ℤ). pos 0 ≤ℤ crossed n (height_at a c right.n right.y) (neg_ℤ (left_of (16 * k) left)) (height_at a c left.n left.y)) (back_to right.x (16 * k * right.n))
    (subst (λ (n : ℤ). pos 0 ≤ℤ crossed (right_of (16 * k) right) (height_at a c right.n right.y) n (height_at a c left.n left.y)) (back_to left.x (16 * k * left.n))
    (crossing_right a c k left right before behind holds)))
  where
    back_to : (a l : ℕ) → pos a -ℤ pos l ≡ neg_ℤ (pos l -ℤ pos a)
    back_to a l = equal (pos a ∷ pos l ∷ []) (difference (at 0) (at 1)) (opposite (difference (at 1) (at 0))) refl

-- what is left of such a form is a form of n, x and y
abbrev left_form : ℤ → ℤ → ℤ → ℤ → ℤ → ℕ → ℕ → Form
left_form k l m a c low high = record { n = k *ℤ a +ℤ l *ℤ pos low -ℤ m *ℤ pos high; x = m -ℤ l; y = k *ℤ c }

left_form_is : (k l m a c : ℤ) (low high n x y : ℕ)
    → form_at (left_form k l m a c low high) n x y ≡ less_both k l m (pos x -ℤ pos (low * n)) (pos (high * n) -ℤ pos x) (height_at a c n y)
left_form_is k l m a c low high n x y = equal (k ∷ l ∷ m ∷ a ∷ c ∷ pos low ∷ pos high ∷ pos n ∷ pos x ∷ pos y ∷ [])
    (sum (sum (product (difference (sum (product (at 0) (at 3)) (product (at 1) (at 5))) (product (at 2) (at 6))) (at 7)) (product (difference (at 2) (at 1)) (at 8))) (product (product (at 0) (at 4)) (at 9)))
    (difference (difference (product (at 0) (sum (product (at 3) (at 7)) (product (at 4) (at 9)))) (product (at 1) (difference (at 8) (product (at 5) (at 7))))) (product (at 2) (difference (product (at 6) (at 7)) (at 8))))
    refl

-- a form of heights that is not negative at a column's spots and crossings is not negative at any point over the column
pub over_column : (a c : ℤ) (tri : Tri) (x z : ℕ) (spots : List Spot) → Covers tri z spots → All (λ (s : Spot). 1 ≤ s.n) spots
    → All (λ (s : Spot). 16 * x * s.n ≤ s.x → s.x ≤ (16 * x + 16) * s.n → pos 0 ≤ℤ height_at a c s.n s.y) spots
    → All (λ (p : Spot). All (λ (q : Spot). (k : ℕ) → p.x < 16 * k * p.n → 16 * k * q.n < q.x → (k ≡ x) ⊎ (k ≡ x + 1) → pos 0 ≤ℤ height_at a c (line_crossing p q k).n (line_crossing p q k).y) spots) spots
    → (p : Weights) → IsOver tri x z p → pos 0 ≤ℤ height_at a c (count_of p) (y_of tri p)
over_column a c tri x z spots covers some there crossings p over = summed cuts.0 cuts.1 cuts.2 cuts.3
  where
    f : Spot → ℤ
    f s = right_of (16 * x) s

    g : Spot → ℤ
    g s = left_of (16 * (x + 1)) s

    h : Spot → ℤ
    h s = height_at a c s.n s.y

    strip : (n x' : ℕ) → 1 ≤ n → pos 0 <ℤ ((pos x' -ℤ pos (16 * x * n)) +ℤ (pos (16 * (x + 1) * n) -ℤ pos x'))
    strip n x' one = let wide : 16 * x * n < 16 * (x + 1) * n = omega arith in omega (arith, ints)

    inside : (s : Spot) → (16 * x * s.n ≤ s.x → s.x ≤ (16 * x + 16) * s.n → pos 0 ≤ℤ h s) → pos 0 ≤ℤ f s → pos 0 ≤ℤ g s → pos 0 ≤ℤ h s
    inside s is p q = is (at_least s.x (16 * x * s.n) p) (let most = at_least (16 * (x + 1) * s.n) s.x q in omega arith)
      where
        at_least : (a b : ℕ) → pos 0 ≤ℤ (pos a -ℤ pos b) → b ≤ a
        at_least a b h = omega (arith, ints)

    beyond : (a b : ℕ) → pos 0 <ℤ (pos a -ℤ pos b) → b < a
    beyond a b h = omega (arith, ints)

    under : (a b : ℕ) → (pos a -ℤ pos b) <ℤ pos 0 → a < b
    under a b h = omega (arith, ints)

    cuts : (k : ℤ) × (l : ℤ) × (m : ℤ) × IsStrip f g h spots k l m
    cuts = two_cuts f g h spots
        (λ i d within. strip (slice_index_or spots i d).n (slice_index_or spots i d).x (some i d within))
        (λ i d within. inside (slice_index_or spots i d) (there i d within))
        (λ i d within j e reached right left. crossing_right a c x (slice_index_or spots j e) (slice_index_or spots i d) (under _ _ left) (beyond _ _ right) (crossings j e reached i d within x (under _ _ left) (beyond _ _ right) (inl refl)))
        (λ i d within j e reached left right. crossing_left a c (x + 1) (slice_index_or spots i d) (slice_index_or spots j e) (beyond _ _ left) (under _ _ right) (crossings i d within j e reached (x + 1) (beyond _ _ left) (under _ _ right) (inr refl)))

    summed : (k l m : ℤ) → IsStrip f g h spots k l m → pos 0 ≤ℤ height_at a c (count_of p) (y_of tri p)
    summed k l m s = left_over k l m _ _ _ s.some s.first s.second (not_less _ _ over.left) (not_less (x_of tri p) (16 * (x + 1) * count_of p) (omega (arith, over.right)))
        (subst (λ (n : ℤ). pos 0 ≤ℤ n) (left_form_is k l m a c (16 * x) (16 * (x + 1)) (count_of p) (x_of tri p) (y_of tri p))
        (covers.holds (left_form k l m a c (16 * x) (16 * (x + 1)))
        (λ i d within. subst (λ (n : ℤ). pos 0 ≤ℤ n) (sym (left_form_is k l m a c (16 * x) (16 * (x + 1)) (slice_index_or spots i d).n (slice_index_or spots i d).x (slice_index_or spots i d).y)) (s.all i d within))
        p over.front over.back))
      where
        not_less : (a b : ℕ) → a ≤ b → pos 0 ≤ℤ (pos b -ℤ pos a)
        not_less a b le = omega (arith, ints)
