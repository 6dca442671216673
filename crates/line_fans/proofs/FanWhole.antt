-- Lines from a point on a portal's line: on the portal, which sees all ahead of it, or beside it, along its line to the nearer end.
use Rattle.std.proofs.Common.{◌≡◌, ◌≢◌, ℕ, zero, suc, ◌+◌, ◌*◌, ◌≤◌, ◌<◌, ◌⊎◌, Bool, true, false, ℤ, pos, negsuc, ◌+ℤ◌, ◌-ℤ◌, ◌*ℤ◌, ◌≤ℤ◌, ◌<ℤ◌, List, [], ◌∷◌, ◌++◌, refl, sym, ap, subst, ◌∙◌, inl, inr, arith}
use Rattle.std.specs.Prelude.{Some, nat_le, unsigned_abs, if◌then◌else◌}
use Rattle.std.specs.List.{Contains}
use Rattle.std.proofs.lemmas.Int.{ints}
use Rattle.std.proofs.lemmas.Nat.{mul-le}
use Rattle.std.proofs.lemmas.Bool.Decides.{nat_tests}
use lib.IntN.{neg_ℤ}
use Rattle.nav_base.specs.declared.point.Point.{Point}
use Rattle.nav_base.specs.Point.{from_to, dot_of, cross_of, orient_of}
use Rattle.nav_base.specs.Deviation.{square_of}
use Rattle.nav_base.proofs.Polynomials.{at, number, sum, difference, product, opposite, equal}
use Rattle.nav_base.proofs.PointTerms.{place, coordinates, from_to_term, dot_term, cross_term}
use Rattle.nav_base.proofs.LengthLaws.{dot_of-itself, square_of-product}
use Rattle.nav_base.proofs.OrientLaws.{cross_of-exchanged, dot_of-exchanged}
use Rattle.mesh_types.specs.declared.links.Portal.{Portal}
use Rattle.mesh_types.specs.Chains.{IsBehind}
use Rattle.funnel_path.proofs.SideRules.{not_negative-signs}
use Rattle.funnel_path.proofs.PointLaws.{length-positive, length-zero}
use Rattle.funnel_path.proofs.LineLaws.{between-not_negative, inside_parts}
use Rattle.line_fans.specs.Fans.{Cone, StandsBefore, whole_cone, cone_through, nearer_end, fan_on, lowered_of, down_of}
use Rattle.line_fans.proofs.FanLaws.{fan_end, down_within, lowered_of-more, lowered_of-last, one_more, settled_beside, settled_on}
use Rattle.line_fans.proofs.FanCorners.{LiesThere, inside, at_left, at_right, beside, on_portal_line}
use Rattle.line_fans.proofs.FanTurns.{Found, along-itself, IsToward, from_left, from_right, along, within}
use Rattle.line_fans.proofs.Scales.{AreAlong, absolute-same, root-at_most}
use Rattle.line_fans.proofs.Pivots.{IsPivot}
use Rattle.line_fans.proofs.HeldLines.{IsHeld, AreEnds, arrives, passes, goes, turns}
use Rattle.line_fans.proofs.Turns.{IsSameWay, held_same}

-- ---- along a portal a line may turn anywhere at its end

free_pivot : (f b : Point) → IsPivot f b f
free_pivot f b = record {
  k = 1;
  y = 1;
  z = 0;
  some = omega arith;
  x_parts = equal (f.x ∷ b.x ∷ []) (product (number (pos 1)) (at 0)) (difference (product (number (pos 1)) (at 0)) (product (number (pos 0)) (at 1))) refl;
  z_parts = equal (f.z ∷ b.z ∷ []) (product (number (pos 1)) (at 0)) (difference (product (number (pos 1)) (at 0)) (product (number (pos 0)) (at 1))) refl;
}

pub some_between : (p q : Point) → p ≢ q → 0 < square_of (from_to p q)
some_between p q apart = by (dot_of (from_to p q) (from_to p q)) (square_of (from_to p q)) (dot_of-itself (from_to p q)) (length-positive p q apart)
  where
    by : (n : ℤ) (m : ℕ) → n ≡ pos m → pos 0 <ℤ n → 0 < m
    by n m e h = omega (arith, ints)

free_turn : (goal n b other : Point) (portal : Portal) (rest : List Portal) (parts : ℕ) → AreEnds portal n other → n ≢ other → 0 < square_of b → IsHeld goal n b (portal ∷ rest) parts
    → IsHeld goal n (from_to n other) (portal ∷ rest) parts
free_turn goal n b other portal rest parts ends apart some held = turns n (from_to n other) b other portal rest parts ends (free_pivot (from_to n other) b) some (some_between n other apart) held

-- ---- vectors of one way

same_x : (u w : Point) → dot_of u w *ℤ w.x ≡ dot_of w w *ℤ u.x +ℤ cross_of u w *ℤ neg_ℤ w.z
unfolding dot_of cross_of
same_x u w = equal (coordinates (u ∷ w ∷ [])) (product (dot_term (place 0) (place 1)) (at 2)) (sum (product (dot_term (place 1) (place 1)) (at 0)) (product (cross_term (place 0) (place 1)) (opposite (at 3)))) refl

same_z : (u w : Point) → dot_of u w *ℤ w.z ≡ dot_of w w *ℤ u.z +ℤ cross_of u w *ℤ w.x
unfolding dot_of cross_of
same_z u w = equal (coordinates (u ∷ w ∷ [])) (product (dot_term (place 0) (place 1)) (at 3)) (sum (product (dot_term (place 1) (place 1)) (at 1)) (product (cross_term (place 0) (place 1)) (at 2))) refl

without : (m n z w : ℤ) → m ≡ n +ℤ z *ℤ w → z ≡ pos 0 → m ≡ n
without m n z w e none = e ∙ (λ i. n +ℤ none i *ℤ w) ∙ equal (n ∷ w ∷ []) (sum (at 0) (product (number (pos 0)) (at 1))) (at 0) refl

some-absolute : (n : ℤ) → pos 0 <ℤ n → 0 < unsigned_abs n
some-absolute (pos n) h = omega (arith, ints)
some-absolute (negsuc n) h = omega (arith, ints)

weak : (n : ℤ) → pos 0 <ℤ n → pos 0 ≤ℤ n
weak n h = omega (arith, ints)

some_factor : (u w : Point) → pos 0 <ℤ dot_of u w → 0 < square_of w
some_factor u w h = by (square_of u) (square_of w) (dot_of u w) (unsigned_abs (cross_of u w) * unsigned_abs (cross_of u w)) (square_of-product u w) h
  where
    by : (s t : ℕ) (d : ℤ) (c : ℕ) → s * t ≡ unsigned_abs d * unsigned_abs d + c → pos 0 <ℤ d → 0 < t
    by s zero (pos zero) c e h = absurd (omega (arith, ints, h))
    by s zero (pos (suc d)) c e h = absurd (omega (arith, e))
    by s zero (negsuc d) c e h = absurd (omega (arith, ints, h))
    by s (suc t) d c e h = omega arith

pub same_way : (u w : Point) → cross_of u w ≡ pos 0 → pos 0 <ℤ dot_of u w → IsSameWay u w
same_way u w none onward = record {
  y = square_of w;
  z = unsigned_abs (dot_of u w);
  some = some_factor u w onward;
  some' = some-absolute (dot_of u w) onward;
  x_parts = (λ i. sym (absolute-same (dot_of u w) (weak (dot_of u w) onward)) i *ℤ w.x) ∙ without (dot_of u w *ℤ w.x) (dot_of w w *ℤ u.x) (cross_of u w) (neg_ℤ w.z) (same_x u w) none ∙ (λ i. dot_of-itself w i *ℤ u.x);
  z_parts = (λ i. sym (absolute-same (dot_of u w) (weak (dot_of u w) onward)) i *ℤ w.z) ∙ without (dot_of u w *ℤ w.z) (dot_of w w *ℤ u.z) (cross_of u w) w.x (same_z u w) none ∙ (λ i. dot_of-itself w i *ℤ u.z);
}

-- ---- from beside a portal on to its nearer end, and along it

cross_rest : (v n other : Point) → cross_of (from_to v n) (from_to n other) ≡ cross_of (from_to v n) (from_to v other)
unfolding cross_of
cross_rest v n other = equal (coordinates (v ∷ n ∷ other ∷ [])) (cross_term (from_to_term (place 0) (place 1)) (from_to_term (place 1) (place 2))) (cross_term (from_to_term (place 0) (place 1)) (from_to_term (place 0) (place 2))) refl

dot_rest : (v n other : Point) → dot_of (from_to v n) (from_to n other) ≡ dot_of (from_to v n) (from_to v other) -ℤ dot_of (from_to v n) (from_to v n)
unfolding dot_of
dot_rest v n other =
    equal (coordinates (v ∷ n ∷ other ∷ [])) (dot_term (from_to_term (place 0) (place 1)) (from_to_term (place 1) (place 2)))
    (difference (dot_term (from_to_term (place 0) (place 1)) (from_to_term (place 0) (place 2))) (dot_term (from_to_term (place 0) (place 1)) (from_to_term (place 0) (place 1)))) refl

pub along_portal : (v n other : Point) → n ≢ other → cross_of (from_to v n) (from_to v other) ≡ pos 0 → pos 0 <ℤ dot_of (from_to v n) (from_to v other)
    → square_of (from_to v n) ≤ square_of (from_to v other) → IsSameWay (from_to v n) (from_to n other)
along_portal v n other apart none onward nearer =
    same_way (from_to v n) (from_to n other) (cross_rest v n other ∙ none)
    (ahead (dot_of (from_to v n) (from_to n other)) (dot_of (from_to v n) (from_to v other)) (square_of (from_to v n)) (dot_rest v n other ∙ (λ i. dot_of (from_to v n) (from_to v other) -ℤ dot_of-itself (from_to v n) i)) onward
    (root-at_most (square_of (from_to v n)) (unsigned_abs (dot_of (from_to v n) (from_to v other)))
    (sizes (square_of (from_to v n)) (square_of (from_to v other)) (unsigned_abs (dot_of (from_to v n) (from_to v other)))
    (square_of-product (from_to v n) (from_to v other) ∙ (λ i. unsigned_abs (dot_of (from_to v n) (from_to v other)) * unsigned_abs (dot_of (from_to v n) (from_to v other)) + unsigned_abs (none i) * unsigned_abs (none i)) ∙ omega arith) nearer))
    (λ e. apart_from (square_of (from_to v n)) (square_of (from_to n other)) (some_factor (from_to v other) (from_to v n) (subst (λ (k : ℤ). pos 0 <ℤ k) (dot_of-exchanged (from_to v other) (from_to v n)) onward)) (some_between n other apart)
    (square_of-product (from_to v n) (from_to n other) ∙ (λ i. unsigned_abs (e i) * unsigned_abs (e i) + unsigned_abs ((cross_rest v n other ∙ none) i) * unsigned_abs ((cross_rest v n other ∙ none) i)))))
  where
    sizes : (s t d : ℕ) → s * t ≡ d * d → s ≤ t → s * s ≤ d * d
    sizes s t d e h = omega (arith, e, mul-le s s s t (omega arith) h)

    apart_from : (s t : ℕ) → 0 < s → 0 < t → s * t ≡ 0 * 0 + 0 * 0 → ⊥
    apart_from s t p q e = omega (arith, e, mul-le 1 1 s t p q)

    ahead : (f d : ℤ) (s : ℕ) → f ≡ d -ℤ pos s → pos 0 <ℤ d → s ≤ unsigned_abs d → (f ≡ pos 0 → ⊥) → pos 0 <ℤ f
    ahead f (pos d) s e h k apart = elim (not_negative-signs f (low d s e k)) [ inl none ↦ absurd (apart none) | inr more ↦ more ]
      where
        low : (d s : ℕ) → f ≡ pos d -ℤ pos s → s ≤ d → pos 0 ≤ℤ f
        low d s e k = omega (arith, ints, e, k)
    ahead f (negsuc d) s e h k apart = absurd (omega (arith, ints, h))

-- ---- whole cones

-- a point of a portal is behind each next portal
abbrev pub IsOnPortal : Point → Portal → Type 0
IsOnPortal root portal = (next : Portal) → StandsBefore portal next → IsBehind next root

pub inside_on : (root : Point) (portal : Portal) → LiesThere root portal → (pos 0 <ℤ dot_of (from_to root portal.left) (from_to root portal.right) → ⊥) → IsOnPortal root portal
inside_on root portal (inside is) not next before = between-not_negative next.right next.left root portal.right portal.left (inside_parts root portal is) before.left_behind before.right_behind
inside_on root portal (at_left same) not next before = subst (λ (p : Point). IsBehind next p) (sym same) before.left_behind
inside_on root portal (at_right same) not next before = subst (λ (p : Point). IsBehind next p) (sym same) before.right_behind
inside_on root portal (beside far) not next before = absurd (not far)

along-still : (b p : Point) → AreAlong b (from_to p p)
unfolding cross_of dot_of
along-still b p = record {
  across = equal (coordinates (b ∷ p ∷ [])) (cross_term (place 0) (from_to_term (place 1) (place 1))) (number (pos 0)) refl;
  onward = none (dot_of b (from_to p p)) (equal (coordinates (b ∷ p ∷ [])) (dot_term (place 0) (from_to_term (place 1) (place 1))) (number (pos 0)) refl);
}
  where
    none : (n : ℤ) → n ≡ pos 0 → pos 0 ≤ℤ n
    none n e = omega (arith, ints)

pub whole_end : (before : List Point) (root : Point) (portal : Portal) (goal : Point) → portal.left ≢ portal.right → Found (whole_cone before root portal) before root portal [] goal
whole_end before root portal goal wide = by (square_of (from_to root goal)) refl
  where
    made : (b : Point) → 0 < square_of b → AreAlong b (from_to root goal) → Found (whole_cone before root portal) before root portal [] goal
    made b some way = record {
      last = whole_cone before root portal;
      of_fan = fan_end portal (whole_cone before root portal);
      points = goal ∷ [];
      told = refl;
      b = b;
      some = some;
      held = subst (λ (n : ℕ). IsHeld goal root b (portal ∷ []) n) (sym (lowered_of-last root goal)) (passes root b portal [] (down_of root goal) (arrives root b (down_of root goal) way (down_within root goal)));
    }

    by : (s : ℕ) → square_of (from_to root goal) ≡ s → Found (whole_cone before root portal) before root portal [] goal
    by zero e =
        made (from_to portal.left portal.right) (some_between portal.left portal.right wide)
        (subst (λ (p : Point). AreAlong (from_to portal.left portal.right) (from_to root p)) (length-zero root goal (dot_of-itself (from_to root goal) ∙ ap pos e)) (along-still (from_to portal.left portal.right) root))
    by (suc s) e = made (from_to root goal) (omega (arith, e)) (along-itself (from_to root goal))

-- ---- beside a portal

-- a line from beside a portal: to its nearer end n, and then as from a whole cone there
beside_found : (before : List Point) (root n other : Point) (portal : Portal) (rest : List Portal) (goal : Point) → AreEnds portal n other → n ≢ other → nearer_end root portal ≡ n
    → orient_of portal.right portal.left root ≡ pos 0 → pos 0 <ℤ dot_of (from_to root portal.left) (from_to root portal.right) → IsSameWay (from_to root n) (from_to n other) → 0 < square_of (from_to root n)
    → (f : Found (whole_cone (before ++ root ∷ []) n portal) (before ++ root ∷ []) n portal rest goal) → Found (cone_through before root portal) before root portal rest goal
beside_found before root n other portal rest goal ends apart near on far same some f = record {
  last = f.last;
  of_fan = subst (λ (c : Cone). Contains (fan_on portal rest (c ∷ [])) f.last) (sym (settled_beside portal (record { before = before; root = root; left = portal.left; right = portal.right; through_left = true; through_right = true; whole = false }) on far
      ∙ ap (λ (p : Point). whole_cone (before ++ root ∷ []) p portal) near)) f.of_fan;
  points = n ∷ f.points;
  told = f.told ∙ ap (λ (ps : List Point). Some ps) (one_more before root (n ∷ f.points));
  b = from_to root n;
  some = some;
  held = subst (λ (k : ℕ). IsHeld goal root (from_to root n) (portal ∷ rest) k) (sym (lowered_of-more root n f.points))
      (goes root (from_to root n) n (portal ∷ rest) (down_of root n) (lowered_of (n ∷ f.points)) (along-itself (from_to root n)) (down_within root n)
      (held_same goal (from_to root n) same (free_turn goal n f.b other portal rest (lowered_of (n ∷ f.points)) ends apart f.some f.held)));
}

-- a line into a portal from a point that is not ahead of it
pub record Entered (before : List Point) (root : Point) (portal : Portal) (rest : List Portal) (goal : Point) : Type 0 where
  pub found : Found (cone_through before root portal) before root portal rest goal
  pub toward : IsToward root portal found.b

crossing_none : (v : Point) (portal : Portal) → orient_of portal.right portal.left v ≡ pos 0 → cross_of (from_to v portal.left) (from_to v portal.right) ≡ pos 0
crossing_none v portal on = on_portal_line v portal ∙ ap neg_ℤ on

cross_back : (u w : Point) → cross_of u w ≡ pos 0 → cross_of w u ≡ pos 0
cross_back u w none = cross_of-exchanged u w ∙ ap neg_ℤ none

same-itself : (u : Point) → IsSameWay u u
same-itself u = record { y = 1; z = 1; some = omega arith; some' = omega arith; x_parts = refl; z_parts = refl }

pub enter_beside : (before : List Point) (root : Point) (portal : Portal) (rest : List Portal) (goal : Point) → portal.left ≢ portal.right → orient_of portal.right portal.left root ≡ pos 0
    → pos 0 <ℤ dot_of (from_to root portal.left) (from_to root portal.right) → ((p : Point) → (p ≡ portal.left) ⊎ (p ≡ portal.right) → Found (whole_cone (before ++ root ∷ []) p portal) (before ++ root ∷ []) p portal rest goal)
    → Entered before root portal rest goal
unfolding beside_found
enter_beside before root portal rest goal wide on far whole = by (nat_le (square_of (from_to root portal.left)) (square_of (from_to root portal.right))) refl
  where
    far_back : pos 0 <ℤ dot_of (from_to root portal.right) (from_to root portal.left)
    far_back = subst (λ (k : ℤ). pos 0 <ℤ k) (dot_of-exchanged (from_to root portal.right) (from_to root portal.left)) far

    some_left : 0 < square_of (from_to root portal.left)
    some_left = some_factor (from_to root portal.right) (from_to root portal.left) far_back

    some_right : 0 < square_of (from_to root portal.right)
    some_right = some_factor (from_to root portal.left) (from_to root portal.right) far

    none : cross_of (from_to root portal.left) (from_to root portal.right) ≡ pos 0
    none = crossing_none root portal on

    less : (s t : ℕ) → nat_le s t ≡ true → s ≤ t
    less s t e = grind (arith, nat_tests)

    more : (s t : ℕ) → nat_le s t ≡ false → t ≤ s
    more s t e = grind (arith, nat_tests)

    near : (b : Bool) → nat_le (square_of (from_to root portal.left)) (square_of (from_to root portal.right)) ≡ b → nearer_end root portal ≡ (if b then portal.left else portal.right)
    near b e = λ i. if e i then portal.left else portal.right

    by : (b : Bool) → nat_le (square_of (from_to root portal.left)) (square_of (from_to root portal.right)) ≡ b → Entered before root portal rest goal
    by true e = record {
      found = beside_found before root portal.left portal.right portal rest goal (inl (refl, refl)) wide (near true e) on far
          (along_portal root portal.left portal.right wide none far (less (square_of (from_to root portal.left)) (square_of (from_to root portal.right)) e)) some_left (whole portal.left (inl refl));
      toward = along (same-itself (from_to root portal.left)) (same_way (from_to root portal.right) (from_to root portal.left) (cross_back (from_to root portal.left) (from_to root portal.right) none) far_back) some_left some_right;
    }
    by false e = record {
      found = beside_found before root portal.right portal.left portal rest goal (inr (refl, refl)) (λ s. wide (sym s)) (near false e) on far
          (along_portal root portal.right portal.left (λ s. wide (sym s)) (cross_back (from_to root portal.left) (from_to root portal.right) none) far_back (more (square_of (from_to root portal.left)) (square_of (from_to root portal.right)) e)) some_right
          (whole portal.right (inr refl));
      toward = along (same_way (from_to root portal.left) (from_to root portal.right) none far) (same-itself (from_to root portal.right)) some_left some_right;
    }

-- ---- on a portal

-- a whole cone at a portal, as the cone through it
whole_through : (before : List Point) (root : Point) (portal : Portal) (rest : List Portal) (goal : Point) → orient_of portal.right portal.left root ≡ pos 0
    → dot_of (from_to root portal.left) (from_to root portal.right) ≤ℤ pos 0 → cone_through before root portal ≡ whole_cone before root portal
whole_through before root portal rest goal on between =
    settled_on portal (record { before = before; root = root; left = portal.left; right = portal.right; through_left = true; through_right = true; whole = false }) on between

unfoldable pub as_cone : (c d : Cone) (before : List Point) (root : Point) (portal : Portal) (rest : List Portal) (goal : Point) → c ≡ d → Found d before root portal rest goal → Found c before root portal rest goal
as_cone c d before root portal rest goal same f = record {
  last = f.last;
  of_fan = subst (λ (x : Cone). Contains (fan_on portal rest (x ∷ [])) f.last) (sym same) f.of_fan;
  points = f.points;
  told = f.told;
  b = f.b;
  some = f.some;
  held = f.held;
}

-- from an end of it, along the portal first
from_end : (c : Cone) (before : List Point) (root other : Point) (portal : Portal) (rest : List Portal) (goal : Point) → AreEnds portal root other → root ≢ other → Found c before root portal rest goal
    → Found c before root portal rest goal
from_end c before root other portal rest goal ends apart f = record {
  last = f.last;
  of_fan = f.of_fan;
  points = f.points;
  told = f.told;
  b = from_to root other;
  some = some_between root other apart;
  held = free_turn goal root f.b other portal rest (lowered_of (root ∷ f.points)) ends apart f.some f.held;
}

weak_less : (n : ℤ) → n <ℤ pos 0 → n ≤ℤ pos 0
weak_less n h = omega (arith, ints)

still_dot : (p q : Point) → dot_of (from_to p p) q ≤ℤ pos 0
unfolding dot_of
still_dot p q = none (dot_of (from_to p p) q) (equal (coordinates (p ∷ q ∷ [])) (dot_term (from_to_term (place 0) (place 0)) (place 1)) (number (pos 0)) refl)
  where
    none : (n : ℤ) → n ≡ pos 0 → n ≤ℤ pos 0
    none n e = omega (arith, ints)

still_dot_right : (p q : Point) → dot_of q (from_to p p) ≤ℤ pos 0
unfolding dot_of
still_dot_right p q = none (dot_of q (from_to p p)) (equal (coordinates (p ∷ q ∷ [])) (dot_term (place 1) (from_to_term (place 0) (place 0))) (number (pos 0)) refl)
  where
    none : (n : ℤ) → n ≡ pos 0 → n ≤ℤ pos 0
    none n e = omega (arith, ints)

pub enter_on : (before : List Point) (root : Point) (portal : Portal) (rest : List Portal) (goal : Point) → portal.left ≢ portal.right → orient_of portal.right portal.left root ≡ pos 0 → LiesThere root portal
    → (pos 0 <ℤ dot_of (from_to root portal.left) (from_to root portal.right) → ⊥) → Found (whole_cone before root portal) before root portal rest goal → Entered before root portal rest goal
unfolding from_end
enter_on before root portal rest goal wide on (inside is) not f = record {
  found = as_cone (cone_through before root portal) (whole_cone before root portal) before root portal rest goal (whole_through before root portal rest goal on (weak_less (dot_of (from_to root portal.left) (from_to root portal.right)) is.between)) f;
  toward = within is;
}
enter_on before root portal rest goal wide on (at_left same) not f = record {
  found = from_end (cone_through before root portal) before root portal.right portal rest goal (inl (same, refl)) (λ e. wide (sym same ∙ e))
      (as_cone (cone_through before root portal) (whole_cone before root portal) before root portal rest goal
      (whole_through before root portal rest goal on (subst (λ (p : Point). dot_of (from_to root p) (from_to root portal.right) ≤ℤ pos 0) same (still_dot root (from_to root portal.right)))) f);
  toward = from_left same refl;
}
enter_on before root portal rest goal wide on (at_right same) not f = record {
  found = from_end (cone_through before root portal) before root portal.left portal rest goal (inr (same, refl)) (λ e. wide (sym (sym same ∙ e)))
      (as_cone (cone_through before root portal) (whole_cone before root portal) before root portal rest goal
      (whole_through before root portal rest goal on (subst (λ (p : Point). dot_of (from_to root portal.left) (from_to root p) ≤ℤ pos 0) same (still_dot_right root (from_to root portal.left)))) f);
  toward = from_right same refl;
}
enter_on before root portal rest goal wide on (beside far) not f = absurd (not far)
