-- Lines that a cone of a fan tells: how one goes on over the next portal, and how it turns at an end of this one.
use Rattle.std.proofs.Common.{◌≡◌, ℕ, ◌+◌, ◌<◌, ◌⊎◌, ℤ, pos, ◌≤ℤ◌, ◌<ℤ◌, List, [], ◌∷◌, ◌++◌, refl, sym, ap, subst, ◌∙◌, inl, inr, arith}
use Rattle.std.specs.Prelude.{Some}
use Rattle.std.specs.List.{Contains}
use Rattle.std.proofs.lemmas.Int.{ints}
use lib.IntN.{neg_ℤ}
use Rattle.nav_base.specs.declared.point.Point.{Point}
use Rattle.nav_base.specs.Point.{from_to, cross_of, orient_of}
use Rattle.nav_base.specs.Deviation.{square_of}
use Rattle.nav_base.proofs.Polynomials.{opposite, equal}
use Rattle.nav_base.proofs.PointTerms.{place, coordinates, cross_term}
use Rattle.nav_base.proofs.OrientLaws.{cross_of-itself}
use Rattle.mesh_types.specs.declared.links.Portal.{Portal}
use Rattle.funnel_path.specs.PassedOver.{IsInside}
use Rattle.funnel_path.proofs.PointLaws.{faces, length-not_negative}
use Rattle.line_fans.specs.Fans.{Cone, fan_on, over, last_portal, way_by, lowered_of, down_of}
use Rattle.line_fans.proofs.FanLaws.{fan_step, down_within, lowered_of-more, one_more}
use Rattle.line_fans.proofs.Scales.{AreAlong}
use Rattle.line_fans.proofs.HeldLines.{IsHeld, AreEnds, passes, goes, turns}
use Rattle.line_fans.proofs.Turns.{IsSameWay, IsTurn, bent, straight, held_same, left_turn, turn_of}
use Rattle.line_fans.proofs.SideTurns.{right_turn, right_turn_of, from_before}

-- a cone at a portal leads to a goal over the portals behind it: some cone of its fan tells a way there, the points before the root, the root and others,
-- and that line is held from the root on
pub record Found (cone : Cone) (before : List Point) (root : Point) (portal : Portal) (rest : List Portal) (goal : Point) : Type 0 where
  pub last : Cone
  pub of_fan : Contains (fan_on portal rest (cone ∷ [])) last
  pub points : List Point
  pub told : way_by (last_portal portal rest) last goal ≡ Some (before ++ root ∷ points)
  pub b : Point
  pub some : 0 < square_of b
  pub held : IsHeld goal root b (portal ∷ rest) (lowered_of (root ∷ points))

-- ---- over the next portal from the same root

unfoldable pub found_on : (c child : Cone) (root : Point) (portal next : Portal) (more : List Portal) (goal : Point) → Contains (over portal next c) child → (f : Found child c.before root next more goal)
    → Found c c.before root portal (next ∷ more) goal
found_on c child root portal next more goal has f = record {
  last = f.last;
  of_fan = fan_step portal next more c child f.last has f.of_fan;
  points = f.points;
  told = f.told;
  b = f.b;
  some = f.some;
  held = passes root f.b portal (next ∷ more) (lowered_of (root ∷ f.points)) f.held;
}

-- ---- round an end

pub along-itself : (u : Point) → AreAlong u u
along-itself u = record { across = cross_of-itself u; onward = length-not_negative u }

-- a line from o turns at v, an end of a portal
pub held_turn : (goal o v other w : Point) (portal : Portal) (rest : List Portal) (parts : ℕ) → AreEnds portal v other → IsTurn (from_to o v) w (from_to v other) → 0 < square_of w
    → 0 < square_of (from_to v other) → IsHeld goal v w (portal ∷ rest) parts → IsHeld goal o (from_to o v) (portal ∷ rest) (down_of o v + parts)
held_turn goal o v other w portal rest parts ends (bent pivot) some apart held =
    goes o (from_to o v) v (portal ∷ rest) (down_of o v) parts (along-itself (from_to o v)) (down_within o v) (turns v (from_to o v) w other portal rest parts ends pivot some apart held)
held_turn goal o v other w portal rest parts ends (straight same) some apart held =
    goes o (from_to o v) v (portal ∷ rest) (down_of o v) parts (along-itself (from_to o v)) (down_within o v) (held_same goal (from_to o v) same held)

-- the direction in which a line goes on from the end, or one of the same way
pub record TurnsTo (a b e : Point) : Type 0 where
  pub w : Point
  pub some : 0 < square_of w
  pub turn : IsTurn a w e
  pub same : (w ≡ b) ⊎ IsSameWay w b

pub held_toward : (goal v w b : Point) (portals : List Portal) (parts : ℕ) → (w ≡ b) ⊎ IsSameWay w b → IsHeld goal v b portals parts → IsHeld goal v w portals parts
held_toward goal v w b portals parts (inl same) held = subst (λ (u : Point). IsHeld goal v u portals parts) (sym same) held
held_toward goal v w b portals parts (inr same) held = held_same goal w same held

unfoldable pub found_turned : (c child : Cone) (v other : Point) (portal next : Portal) (more : List Portal) (goal : Point) → AreEnds portal v other → Contains (over portal next c) child
    → (f : Found child (c.before ++ c.root ∷ []) v next more goal) → TurnsTo (from_to c.root v) f.b (from_to v other) → 0 < square_of (from_to v other) → 0 < square_of (from_to c.root v)
    → Found c c.before c.root portal (next ∷ more) goal
found_turned c child v other portal next more goal ends has f to apart some = record {
  last = f.last;
  of_fan = fan_step portal next more c child f.last has f.of_fan;
  points = v ∷ f.points;
  told = f.told ∙ ap (λ (ps : List Point). Some ps) (one_more c.before c.root (v ∷ f.points));
  b = from_to c.root v;
  some = some;
  held = subst (λ (n : ℕ). IsHeld goal c.root (from_to c.root v) (portal ∷ next ∷ more) n) (sym (lowered_of-more c.root v f.points))
      (held_turn goal c.root v other to.w portal (next ∷ more) (lowered_of (v ∷ f.points)) ends to.turn to.some apart
      (passes v to.w portal (next ∷ more) (lowered_of (v ∷ f.points)) (held_toward goal v to.w f.b (next ∷ more) (lowered_of (v ∷ f.points)) to.same f.held)));
}

-- ---- where a line goes from a point into the next portal

pub data IsToward (v : Point) (portal : Portal) (b : Point) : Type 0 where
  seen : pos 0 <ℤ orient_of portal.right portal.left v → pos 0 ≤ℤ cross_of b (from_to v portal.left) → pos 0 ≤ℤ cross_of (from_to v portal.right) b → IsToward v portal b
  from_left : v ≡ portal.left → b ≡ from_to v portal.right → IsToward v portal b
  from_right : v ≡ portal.right → b ≡ from_to v portal.left → IsToward v portal b
  along : IsSameWay (from_to v portal.left) b → IsSameWay (from_to v portal.right) b → 0 < square_of (from_to v portal.left) → 0 < square_of (from_to v portal.right) → IsToward v portal b
  within : IsInside v portal → IsToward v portal b

at_least : (m n : ℤ) → m ≡ n → pos 0 ≤ℤ n → pos 0 ≤ℤ m
at_least m n e h = omega (arith, ints)

pub record IsLeftCorner (o v other : Point) (next : Portal) : Type 0 where
  pub other_right : pos 0 <ℤ cross_of (from_to v other) (from_to o v)
  pub left_ahead : pos 0 ≤ℤ orient_of v other next.left
  pub right_ahead : pos 0 ≤ℤ orient_of v other next.right
  pub right_left : pos 0 ≤ℤ orient_of o v next.right
  pub not_inside : IsInside v next → ⊥
  pub not_right : v ≡ next.right → ⊥

-- a turn to the left, onto the right end
onto_right : (o v other : Point) (next : Portal) → IsLeftCorner o v other next → 0 < square_of (from_to v next.right) → IsTurn (from_to o v) (from_to v next.right) (from_to v other)
unfolding orient_of
onto_right o v other next is some =
    turn_of (from_to o v) (from_to v next.right) (from_to v other) is.other_right (at_least (cross_of (from_to o v) (from_to v next.right)) (orient_of o v next.right) (from_before o v next.right) is.right_left) is.right_ahead some

pub left_toward : (o v other : Point) (next : Portal) (b : Point) → IsLeftCorner o v other next → 0 < square_of b → IsToward v next b → TurnsTo (from_to o v) b (from_to v other)
unfolding orient_of
left_toward o v other next b is some (seen behind right_of_left left_of_right) = record {
  w = b;
  some = some;
  turn = left_turn (from_to o v) b (from_to v other) (from_to v next.left) (from_to v next.right) (record {
    other_right = is.other_right;
    right_ahead = is.right_ahead;
    left_ahead = is.left_ahead;
    right_left = at_least (cross_of (from_to o v) (from_to v next.right)) (orient_of o v next.right) (from_before o v next.right) is.right_left;
    wide = faces v next.right next.left behind;
    right_of_left = right_of_left;
    left_of_right = left_of_right;
  }) some;
  same = inl refl;
}
left_toward o v other next b is some (from_left same to) = record {
  w = from_to v next.right;
  some = subst (λ (u : Point). 0 < square_of u) to some;
  turn = onto_right o v other next is (subst (λ (u : Point). 0 < square_of u) to some);
  same = inl (sym to);
}
left_toward o v other next b is some (from_right same to) = absurd (is.not_right same)
left_toward o v other next b is some (along left right far far') = record { w = from_to v next.right; some = far'; turn = onto_right o v other next is far'; same = inr right }
left_toward o v other next b is some (within inside) = absurd (is.not_inside inside)

pub record IsRightCorner (o v other : Point) (next : Portal) : Type 0 where
  pub other_left : pos 0 <ℤ cross_of (from_to o v) (from_to v other)
  pub left_ahead : orient_of v other next.left ≤ℤ pos 0
  pub right_ahead : orient_of v other next.right ≤ℤ pos 0
  pub left_right : orient_of o v next.left ≤ℤ pos 0
  pub not_inside : IsInside v next → ⊥
  pub not_left : v ≡ next.left → ⊥

turned : (u v : Point) → cross_of u v ≤ℤ pos 0 → pos 0 ≤ℤ cross_of v u
unfolding cross_of
turned u v h = by (cross_of u v) (cross_of v u) (equal (coordinates (u ∷ v ∷ [])) (cross_term (place 1) (place 0)) (opposite (cross_term (place 0) (place 1))) refl) h
  where
    by : (m n : ℤ) → n ≡ neg_ℤ m → m ≤ℤ pos 0 → pos 0 ≤ℤ n
    by m n e h = omega (arith, ints)

before_left : (o v x : Point) → orient_of o v x ≤ℤ pos 0 → pos 0 ≤ℤ cross_of (from_to v x) (from_to o v)
before_left o v x h = turned (from_to o v) (from_to v x) (subst (λ (n : ℤ). n ≤ℤ pos 0) (sym (from_before o v x)) h)

onto_left : (o v other : Point) (next : Portal) → IsRightCorner o v other next → 0 < square_of (from_to v next.left) → IsTurn (from_to o v) (from_to v next.left) (from_to v other)
unfolding orient_of
onto_left o v other next is some =
    right_turn_of (from_to o v) (from_to v next.left) (from_to v other) is.other_left (before_left o v next.left is.left_right) (turned (from_to v other) (from_to v next.left) is.left_ahead) some

pub right_toward : (o v other : Point) (next : Portal) (b : Point) → IsRightCorner o v other next → 0 < square_of b → IsToward v next b → TurnsTo (from_to o v) b (from_to v other)
unfolding orient_of
right_toward o v other next b is some (seen behind right_of_left left_of_right) = record {
  w = b;
  some = some;
  turn = right_turn (from_to o v) b (from_to v other) (from_to v next.left) (from_to v next.right) (record {
    other_left = is.other_left;
    right_ahead = turned (from_to v other) (from_to v next.right) is.right_ahead;
    left_ahead = turned (from_to v other) (from_to v next.left) is.left_ahead;
    left_right = before_left o v next.left is.left_right;
    wide = faces v next.right next.left behind;
    right_of_left = right_of_left;
    left_of_right = left_of_right;
  }) some;
  same = inl refl;
}
right_toward o v other next b is some (from_right same to) = record {
  w = from_to v next.left;
  some = subst (λ (u : Point). 0 < square_of u) to some;
  turn = onto_left o v other next is (subst (λ (u : Point). 0 < square_of u) to some);
  same = inl (sym to);
}
right_toward o v other next b is some (from_left same to) = absurd (is.not_left same)
right_toward o v other next b is some (along left right far far') = record { w = from_to v next.left; some = far; turn = onto_left o v other next is far; same = inr left }
right_toward o v other next b is some (within inside) = absurd (is.not_inside inside)
