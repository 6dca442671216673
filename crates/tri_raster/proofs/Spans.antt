-- What the spots of a row span: a form that is nowhere negative on them is not negative at any point of the triangle in the row.
use Rattle.std.proofs.Common.{◌≡◌, ℕ, ◌+◌, ◌-◌, ◌*◌, ◌≤◌, ◌<◌, ℤ, pos, ◌+ℤ◌, ◌-ℤ◌, ◌*ℤ◌, ◌≤ℤ◌, ◌<ℤ◌, List, [], ◌∷◌, ◌++◌, ◌⊎◌, inl, inr, Bool, true, false, cond, refl, sym, subst, arith}
use Rattle.std.specs.Prelude.{nat_le, nat_lt, ◌&&◌, slice_index_or}
use Rattle.std.specs.List.{All}
use Rattle.std.proofs.lemmas.Int.{ints}
use Rattle.std.proofs.lemmas.List.Elements.{All-nil, All-cons, All-head, All-tail}
use lib.IntN.{neg_ℤ}
use Rattle.nav_base.proofs.Polynomials.{Term, at, number, opposite, sum, difference, product, equal}
use Rattle.nav_base.proofs.Signs.{product-not_negative, factor-not_negative}
use Rattle.tri_raster.specs.declared.triangle.Corner3.{Corner3}
use Rattle.tri_raster.specs.declared.triangle.Tri.{Tri}
use Rattle.tri_raster.specs.declared.triangle.Spot.{Spot}
use Rattle.tri_raster.specs.Triangles.{Weights, count_of, x_of, y_of, z_of}
use Rattle.tri_raster.specs.Spots.{spot_of, crossing, corner_spots, edge_spots, row_spots}
use Rattle.tri_raster.proofs.Cuts.{crossed, less_both, IsStrip, two_cuts}

-- a form of n, x and y
pub record Form : Type 0 where
  pub n : ℤ
  pub x : ℤ
  pub y : ℤ

abbrev pub form_at : Form → ℕ → ℕ → ℕ → ℤ
form_at f n x y = f.n *ℤ pos n +ℤ f.x *ℤ pos x +ℤ f.y *ℤ pos y

abbrev pub at_spot : Form → Spot → ℤ
at_spot f s = form_at f s.n s.x s.y

-- the forms of a row's two lines, at a corner
abbrev pub ahead : ℕ → Corner3 → ℤ
ahead z c = pos c.z -ℤ pos (16 * z)

abbrev pub before : ℕ → Corner3 → ℤ
before z c = pos (16 * z + 16) -ℤ pos c.z

-- ---- a test that was passed

tested : {P : Type 0} (a b : Bool) → (xs ys : List Spot) → (a && b ≡ true → P) → P ⊎ (cond (a && b) xs ys ≡ ys)
tested true true xs ys f = inl (f refl)
tested true false xs ys f = inr refl
tested false b xs ys f = inr refl

corner_there : (Q : Spot → Type 0) (c : Corner3) (z : ℕ) → All Q (corner_spots c z) → 16 * z ≤ c.z → c.z ≤ 16 * z + 16 → Q (spot_of c)
corner_there Q c z all low high = chosen (nat_le (16 * z) c.z) (nat_le c.z (16 * z + 16)) (grind arith) (grind arith) all
  where
    chosen : (a b : Bool) → a ≡ true → b ≡ true → All Q (cond (a && b) (spot_of c ∷ []) []) → Q (spot_of c)
    chosen true true e e' all = All-head Q (spot_of c) [] all
    chosen true false e e' all = absurd (cc)
    chosen false b e e' all = absurd (cc)

edge_there : (Q : Spot → Type 0) (a b : Corner3) (line : ℕ) → All Q (edge_spots a b line) → a.z < line → line < b.z → Q (crossing a b line)
edge_there Q a b line all low high = chosen (nat_lt a.z line) (nat_lt line b.z) (grind arith) (grind arith) all
  where
    chosen : (s t : Bool) → s ≡ true → t ≡ true → All Q (cond (s && t) (crossing a b line ∷ []) (cond (nat_lt b.z line && nat_lt line a.z) (crossing b a line ∷ []) [])) → Q (crossing a b line)
    chosen true true e e' all = All-head Q (crossing a b line) [] all
    chosen true false e e' all = absurd (cc)
    chosen false t e e' all = absurd (cc)

edge_back : (Q : Spot → Type 0) (a b : Corner3) (line : ℕ) → All Q (edge_spots a b line) → b.z < line → line < a.z → Q (crossing b a line)
edge_back Q a b line all low high = chosen (nat_lt a.z line) (nat_lt b.z line) (nat_lt line a.z) (grind arith) (grind arith) (grind arith) all
  where
    chosen : (s t u : Bool) → s ≡ false → t ≡ true → u ≡ true → All Q (cond (s && nat_lt line b.z) (crossing a b line ∷ []) (cond (t && u) (crossing b a line ∷ []) [])) → Q (crossing b a line)
    chosen false true true e e' e'' all = All-head Q (crossing b a line) [] all
    chosen true t u e e' e'' all = absurd (cc)
    chosen false false u e e' e'' all = absurd (cc)
    chosen false true false e e' e'' all = absurd (cc)

-- ---- crossings

-- a form at an edge's crossing with a line is that at its ends, crossed
crossing_form : (f : Form) (L ax ay az bx by bz w u : ℕ) → w + L ≡ bz → u + az ≡ L
    → crossed (pos bz -ℤ pos L) (form_at f 1 bx by) (pos az -ℤ pos L) (form_at f 1 ax ay) ≡ form_at f (w + u) (w * ax + u * bx) (w * ay + u * by)
crossing_form f L ax ay az bx by bz w u e e' =
    let P : ℕ → Type 0 = λ n. crossed (pos n -ℤ pos L) (form_at f 1 bx by) (pos az -ℤ pos L) (form_at f 1 ax ay) ≡ form_at f (w + u) (w * ax + u * bx) (w * ay + u * by) in
    let Q : ℕ → Type 0 = λ n. crossed (pos (w + n) -ℤ pos n) (form_at f 1 bx by) (pos az -ℤ pos n) (form_at f 1 ax ay) ≡ form_at f (w + u) (w * ax + u * bx) (w * ay + u * by) in
    subst P e (subst Q e' straight)
  where
    straight : crossed (pos (w + (u + az)) -ℤ pos (u + az)) (form_at f 1 bx by) (pos az -ℤ pos (u + az)) (form_at f 1 ax ay) ≡ form_at f (w + u) (w * ax + u * bx) (w * ay + u * by)
    straight = equal (pos w ∷ pos u ∷ pos az ∷ pos ax ∷ pos ay ∷ pos bx ∷ pos by ∷ f.n ∷ f.x ∷ f.y ∷ [])
        (difference
        (product (difference (sum (at 0) (sum (at 1) (at 2))) (sum (at 1) (at 2))) (sum (sum (product (at 7) (number (pos 1))) (product (at 8) (at 3))) (product (at 9) (at 4))))
        (product (difference (at 2) (sum (at 1) (at 2))) (sum (sum (product (at 7) (number (pos 1))) (product (at 8) (at 5))) (product (at 9) (at 6)))))
        (sum (sum (product (at 7) (sum (at 0) (at 1))) (product (at 8) (sum (product (at 0) (at 3)) (product (at 1) (at 5))))) (product (at 9) (sum (product (at 0) (at 4)) (product (at 1) (at 6)))))
        refl

-- the same, from the ends of an edge below and above the line
rising : (f : Form) (L : ℕ) (a b : Corner3) → (a.z < L → L < b.z → pos 0 ≤ℤ at_spot f (crossing a b L)) → a.z < L → L < b.z
    → pos 0 ≤ℤ crossed (pos b.z -ℤ pos L) (at_spot f (spot_of b)) (pos a.z -ℤ pos L) (at_spot f (spot_of a))
rising f L a b holds low high =
    subst (λ (n : ℤ). pos 0 ≤ℤ n) (sym (crossing_form f L a.x a.y a.z b.x b.y b.z (b.z - L) (L - a.z) (omega arith) (omega arith)))
    (subst (λ (n : ℕ). pos 0 ≤ℤ form_at f n ((b.z - L) * a.x + (L - a.z) * b.x) ((b.z - L) * a.y + (L - a.z) * b.y)) (all_of a.z L b.z low high) (holds low high))
  where
    all_of : (a l b : ℕ) → a < l → l < b → b - a ≡ (b - l) + (l - a)
    all_of a l b p q = omega arith

-- a crossing may be said from either side
turned : (fp hp fq hq : ℤ) → crossed fp hp fq hq ≡ crossed (neg_ℤ fq) hq (neg_ℤ fp) hp
turned fp hp fq hq = equal (fp ∷ hp ∷ fq ∷ hq ∷ []) (difference (product (at 0) (at 3)) (product (at 2) (at 1))) (difference (product (opposite (at 2)) (at 1)) (product (opposite (at 0)) (at 3))) refl

-- every form that is nowhere negative on the spots is not negative at any point of the triangle in the row
pub record Covers (tri : Tri) (z : ℕ) (spots : List Spot) : Type 0 where
  pub holds : (f : Form) → All (λ (s : Spot). pos 0 ≤ℤ at_spot f s) spots → (p : Weights) → 16 * z * count_of p ≤ z_of tri p → z_of tri p ≤ (16 * z + 16) * count_of p
      → pos 0 ≤ℤ form_at f (count_of p) (x_of tri p) (y_of tri p)

three : (P : Corner3 → Type 0) (a b c : Corner3) → P a → P b → P c → All P (a ∷ b ∷ c ∷ [])
three P a b c p q r = All-cons P a (b ∷ c ∷ []) p (All-cons P b (c ∷ []) q (All-cons P c [] r (All-nil P)))

-- an edge's crossing holds from either end
abbrev Holds : Form → ℕ → Corner3 → Corner3 → Type 0
Holds f L a b = a.z < L → L < b.z → pos 0 ≤ℤ at_spot f (crossing a b L)

edges : (f : Form) (L : ℕ) (a b c : Corner3)
    → All (λ (s : Spot). pos 0 ≤ℤ at_spot f s) (edge_spots a b L) → All (λ (s : Spot). pos 0 ≤ℤ at_spot f s) (edge_spots b c L) → All (λ (s : Spot). pos 0 ≤ℤ at_spot f s) (edge_spots c a L)
    → All (λ (p : Corner3). All (Holds f L p) (a ∷ b ∷ c ∷ [])) (a ∷ b ∷ c ∷ [])
edges f L a b c ab bc ca = three (λ (p : Corner3). All (Holds f L p) (a ∷ b ∷ c ∷ [])) a b c
    (three (Holds f L a) a b c (itself a) (λ p q. edge_there Q a b L ab p q) (λ p q. edge_back Q c a L ca p q))
    (three (Holds f L b) a b c (λ p q. edge_back Q a b L ab p q) (itself b) (λ p q. edge_there Q b c L bc p q))
    (three (Holds f L c) a b c (λ p q. edge_there Q c a L ca p q) (λ p q. edge_back Q b c L bc p q) (itself c))
  where
    Q : Spot → Type 0
    Q s = pos 0 ≤ℤ at_spot f s

    itself : (p : Corner3) → Holds f L p p
    itself p low high = absurd (omega arith)

-- the sum of a form over weights
weighed : (f : Form) (u v w ax ay bx by cx cy : ℕ)
    → pos u *ℤ form_at f 1 ax ay +ℤ pos v *ℤ form_at f 1 bx by +ℤ pos w *ℤ form_at f 1 cx cy ≡ form_at f (u + v + w) (u * ax + v * bx + w * cx) (u * ay + v * by + w * cy)
weighed f u v w ax ay bx by cx cy = equal (pos u ∷ pos v ∷ pos w ∷ pos ax ∷ pos ay ∷ pos bx ∷ pos by ∷ pos cx ∷ pos cy ∷ f.n ∷ f.x ∷ f.y ∷ [])
    (sum (sum (product (at 0) (one 3 4)) (product (at 1) (one 5 6))) (product (at 2) (one 7 8)))
    (sum (sum (product (at 9) (sum (sum (at 0) (at 1)) (at 2))) (product (at 10) (sum (sum (product (at 0) (at 3)) (product (at 1) (at 5))) (product (at 2) (at 7)))))
    (product (at 11) (sum (sum (product (at 0) (at 4)) (product (at 1) (at 6))) (product (at 2) (at 8)))))
    refl
  where
    one : ℕ → ℕ → Term
    one x y = sum (sum (product (at 9) (number (pos 1))) (product (at 10) (at x))) (product (at 11) (at y))

lessened : (k l m ha hb hc : ℤ) (u v w az bz cz low high : ℕ)
    → pos u *ℤ less_both k l m (pos az -ℤ pos low) (pos high -ℤ pos az) ha +ℤ pos v *ℤ less_both k l m (pos bz -ℤ pos low) (pos high -ℤ pos bz) hb +ℤ pos w *ℤ less_both k l m (pos cz -ℤ pos low) (pos high -ℤ pos cz) hc
    ≡ less_both k l m (pos (u * az + v * bz + w * cz) -ℤ pos (low * (u + v + w))) (pos (high * (u + v + w)) -ℤ pos (u * az + v * bz + w * cz)) (pos u *ℤ ha +ℤ pos v *ℤ hb +ℤ pos w *ℤ hc)
lessened k l m ha hb hc u v w az bz cz low high = equal (k ∷ l ∷ m ∷ ha ∷ hb ∷ hc ∷ pos u ∷ pos v ∷ pos w ∷ pos az ∷ pos bz ∷ pos cz ∷ pos low ∷ pos high ∷ [])
    (sum (sum (product (at 6) (one (at 9) (at 3))) (product (at 7) (one (at 10) (at 4)))) (product (at 8) (one (at 11) (at 5))))
    (difference (difference (product (at 0) (sum (sum (product (at 6) (at 3)) (product (at 7) (at 4))) (product (at 8) (at 5))))
    (product (at 1) (difference deep (product (at 12) count)))) (product (at 2) (difference (product (at 13) count) deep)))
    refl
  where
    one : Term → Term → Term
    one z h = difference (difference (product (at 0) h) (product (at 1) (difference z (at 12)))) (product (at 2) (difference (at 13) z))

    count : Term
    count = sum (sum (at 6) (at 7)) (at 8)

    deep : Term
    deep = sum (sum (product (at 6) (at 9)) (product (at 7) (at 10))) (product (at 8) (at 11))

-- a form that is more than what two forms need is not negative where these are not
pub left_over : (k l m f g h : ℤ) → pos 0 <ℤ k → pos 0 ≤ℤ l → pos 0 ≤ℤ m → pos 0 ≤ℤ f → pos 0 ≤ℤ g → pos 0 ≤ℤ less_both k l m f g h → pos 0 ≤ℤ h
left_over k l m f g h some first second over under more =
    factor-not_negative k h some (sums (k *ℤ h) (l *ℤ f) (m *ℤ g) (product-not_negative l f first over) (product-not_negative m g second under) more)
  where
    sums : (a b c : ℤ) → pos 0 ≤ℤ b → pos 0 ≤ℤ c → pos 0 ≤ℤ (a -ℤ b -ℤ c) → pos 0 ≤ℤ a
    sums a b c p q r = omega (arith, ints)

spanned : (f : Form) (tri : Tri) (z : ℕ)
    → All (λ (s : Spot). pos 0 ≤ℤ at_spot f s) (corner_spots tri.a z) → All (λ (s : Spot). pos 0 ≤ℤ at_spot f s) (corner_spots tri.b z) → All (λ (s : Spot). pos 0 ≤ℤ at_spot f s) (corner_spots tri.c z)
    → All (λ (p : Corner3). All (Holds f (16 * z) p) (tri.a ∷ tri.b ∷ tri.c ∷ [])) (tri.a ∷ tri.b ∷ tri.c ∷ [])
    → All (λ (p : Corner3). All (Holds f (16 * z + 16) p) (tri.a ∷ tri.b ∷ tri.c ∷ [])) (tri.a ∷ tri.b ∷ tri.c ∷ [])
    → (p : Weights) → 16 * z * count_of p ≤ z_of tri p → z_of tri p ≤ (16 * z + 16) * count_of p → pos 0 ≤ℤ form_at f (count_of p) (x_of tri p) (y_of tri p)
spanned f tri z aa bs cs low high p front back = summed cuts.0 cuts.1 cuts.2 cuts.3
  where
    corners : List Corner3
    corners = tri.a ∷ tri.b ∷ tri.c ∷ []

    h : Corner3 → ℤ
    h c = at_spot f (spot_of c)

    inside : (c : Corner3) → All (λ (s : Spot). pos 0 ≤ℤ at_spot f s) (corner_spots c z) → pos 0 ≤ℤ ahead z c → pos 0 ≤ℤ before z c → pos 0 ≤ℤ h c
    inside c all over under = corner_there (λ (s : Spot). pos 0 ≤ℤ at_spot f s) c z all (omega (arith, ints)) (omega (arith, ints))

    strip : (c : Corner3) → pos 0 <ℤ (ahead z c +ℤ before z c)
    strip c = omega (arith, ints)

    up : (a b : Corner3) → Holds f (16 * z) a b → pos 0 <ℤ ahead z b → ahead z a <ℤ pos 0 → pos 0 ≤ℤ crossed (ahead z b) (h b) (ahead z a) (h a)
    up a b holds over under = rising f (16 * z) a b holds (omega (arith, ints)) (omega (arith, ints))

    down : (a b : Corner3) → Holds f (16 * z + 16) a b → pos 0 <ℤ before z a → before z b <ℤ pos 0 → pos 0 ≤ℤ crossed (before z a) (h a) (before z b) (h b)
    down a b holds over under =
        subst (λ (n : ℤ). pos 0 ≤ℤ n) (sym (turned (before z a) (h a) (before z b) (h b)))
        (subst (λ (n : ℤ). pos 0 ≤ℤ crossed n (h b) (neg_ℤ (before z a)) (h a)) (back_to b.z (16 * z + 16))
        (subst (λ (n : ℤ). pos 0 ≤ℤ crossed (pos b.z -ℤ pos (16 * z + 16)) (h b) n (h a)) (back_to a.z (16 * z + 16))
        (rising f (16 * z + 16) a b holds (omega (arith, ints)) (omega (arith, ints)))))
      where
        back_to : (a l : ℕ) → pos a -ℤ pos l ≡ neg_ℤ (pos l -ℤ pos a)
        back_to a l = equal (pos a ∷ pos l ∷ []) (difference (at 0) (at 1)) (opposite (difference (at 1) (at 0))) refl

    cuts : (k : ℤ) × (l : ℤ) × (m : ℤ) × IsStrip (ahead z) (before z) h corners k l m
    cuts = two_cuts (ahead z) (before z) h corners
        (λ i d there. strip (slice_index_or corners i d))
        (three (λ (c : Corner3). pos 0 ≤ℤ ahead z c → pos 0 ≤ℤ before z c → pos 0 ≤ℤ h c) tri.a tri.b tri.c (inside tri.a aa) (inside tri.b bs) (inside tri.c cs))
        (λ i d there j e within. up (slice_index_or corners j e) (slice_index_or corners i d) (low j e within i d there))
        (λ i d there j e within. down (slice_index_or corners i d) (slice_index_or corners j e) (high i d there j e within))

    summed : (k l m : ℤ) → IsStrip (ahead z) (before z) h corners k l m → pos 0 ≤ℤ form_at f (count_of p) (x_of tri p) (y_of tri p)
    summed k l m s =
        subst (λ (n : ℤ). pos 0 ≤ℤ n) (weighed f p.u p.v p.w tri.a.x tri.a.y tri.b.x tri.b.y tri.c.x tri.c.y)
        (left_over k l m _ _ _ s.some s.first s.second (not_less _ _ front) (not_less _ _ back)
        (subst (λ (n : ℤ). pos 0 ≤ℤ n) (lessened k l m (h tri.a) (h tri.b) (h tri.c) p.u p.v p.w tri.a.z tri.b.z tri.c.z (16 * z) (16 * z + 16))
        (sums _ _ _ (product-not_negative (pos p.u) _ (natural p.u) (s.all 0 tri.a (omega arith)))
        (product-not_negative (pos p.v) _ (natural p.v) (s.all 1 tri.a (omega arith)))
        (product-not_negative (pos p.w) _ (natural p.w) (s.all 2 tri.a (omega arith))))))
      where
        natural : (n : ℕ) → pos 0 ≤ℤ pos n
        natural n = omega (arith, ints)

        not_less : (a b : ℕ) → a ≤ b → pos 0 ≤ℤ (pos b -ℤ pos a)
        not_less a b le = omega (arith, ints)

        sums : (a b c : ℤ) → pos 0 ≤ℤ a → pos 0 ≤ℤ b → pos 0 ≤ℤ c → pos 0 ≤ℤ (a +ℤ b +ℤ c)
        sums a b c p q r = omega (arith, ints)

-- what holds of all of a list holds of its parts
front_of : {A : Type 0} (P : A → Type 0) (xs ys : List A) → All P (xs ++ ys) → All P xs
front_of {A} P [] ys all = All-nil P
front_of {A} P (x ∷ xs) ys all = All-cons P x xs (All-head P x (xs ++ ys) all) (front_of P xs ys (All-tail P x (xs ++ ys) all))

rest_of : {A : Type 0} (P : A → Type 0) (xs ys : List A) → All P (xs ++ ys) → All P ys
rest_of {A} P [] ys all = all
rest_of {A} P (x ∷ xs) ys all = rest_of P xs ys (All-tail P x (xs ++ ys) all)

pub row_covers : (tri : Tri) (z : ℕ) → Covers tri z (row_spots tri z)
unfolding row_spots
row_covers tri z = record {
  holds = λ f all.
      let Q : Spot → Type 0 = λ s. pos 0 ≤ℤ at_spot f s in
      let all8 = front_of Q _ (edge_spots tri.c tri.a (16 * z + 16)) all in
      let all7 = front_of Q _ (edge_spots tri.b tri.c (16 * z + 16)) all8 in
      let all6 = front_of Q _ (edge_spots tri.a tri.b (16 * z + 16)) all7 in
      let all5 = front_of Q _ (edge_spots tri.c tri.a (16 * z)) all6 in
      let all4 = front_of Q _ (edge_spots tri.b tri.c (16 * z)) all5 in
      let all3 = front_of Q _ (edge_spots tri.a tri.b (16 * z)) all4 in
      let all2 = front_of Q (corner_spots tri.a z ++ corner_spots tri.b z) (corner_spots tri.c z) all3 in
      spanned f tri z (front_of Q (corner_spots tri.a z) (corner_spots tri.b z) all2) (rest_of Q (corner_spots tri.a z) (corner_spots tri.b z) all2)
      (rest_of Q (corner_spots tri.a z ++ corner_spots tri.b z) (corner_spots tri.c z) all3)
      (edges f (16 * z) tri.a tri.b tri.c (rest_of Q _ (edge_spots tri.a tri.b (16 * z)) all4) (rest_of Q _ (edge_spots tri.b tri.c (16 * z)) all5) (rest_of Q _ (edge_spots tri.c tri.a (16 * z)) all6))
      (edges f (16 * z + 16) tri.a tri.b tri.c (rest_of Q _ (edge_spots tri.a tri.b (16 * z + 16)) all7) (rest_of Q _ (edge_spots tri.b tri.c (16 * z + 16)) all8) (rest_of Q _ (edge_spots tri.c tri.a (16 * z + 16)) all));
}
