-- A line that is held at each of its turns is no longer than any line over the same portals.
use Rattle.std.proofs.Common.{◌≡◌, ℕ, ◌+◌, ◌*◌, ◌≤◌, ◌<◌, ◌⊎◌, ℤ, pos, ◌+ℤ◌, ◌-ℤ◌, ◌*ℤ◌, ◌≤ℤ◌, ◌<ℤ◌, List, [], ◌∷◌, ◌++◌, refl, sym, ap, subst, ◌∙◌, inl, inr, arith}
use Rattle.std.specs.Prelude.{unsigned_abs}
use Rattle.std.proofs.lemmas.Int.{ints}
use Rattle.std.proofs.lemmas.Nat.{mul-le}
use Rattle.std.proofs.lemmas.Bool.{cases_lt}
use lib.IntN.{neg_ℤ, *ℤ-zero}
use Rattle.nav_base.specs.declared.point.Point.{Point}
use Rattle.nav_base.specs.Point.{from_to, dot_of, cross_of, orient_of}
use Rattle.nav_base.specs.Deviation.{square_of}
use Rattle.nav_base.proofs.Polynomials.{at, number, sum, difference, product, opposite, equal}
use Rattle.nav_base.proofs.PointTerms.{Place, place, coordinates, from_to_term, dot_term, cross_term, orient_term}
use Rattle.nav_base.proofs.LengthLaws.{dot_of-itself}
use Rattle.nav_base.proofs.OrientLaws.{cross_of-exchanged}
use Rattle.nav_base.proofs.Signs.{factor-zero, factor-not_negative}
use Rattle.mesh_types.specs.declared.links.Portal.{Portal}
use Rattle.line_fans.specs.Lines.{spread, Reaches, IsOn, IsLine, IsUnder}
use Rattle.line_fans.proofs.Scales.{IsScale, AreAlong, scale, scalar_bound, along_bound, absolute-same}
use Rattle.line_fans.proofs.Pivots.{IsPivot, pivot_bound, slack_of}

-- a number of parts, 4096 to a sixteenth, is no more than the distance of two points
abbrev pub IsWithin : ℕ → Point → Point → Type 0
IsWithin parts a b = parts * parts ≤ 4096 * 4096 * square_of (from_to a b)

-- two points are the ends of a portal
abbrev pub AreEnds : Portal → Point → Point → Type 0
AreEnds portal end other = ((end ≡ portal.left) × (other ≡ portal.right)) ⊎ ((end ≡ portal.right) × (other ≡ portal.left))

-- A line goes on from a point in a direction over portals to a goal, and has some parts at least: it goes straight, and turns only at ends of
-- portals, each on the outer side of the turn.
pub data IsHeld (goal : Point) : Point → Point → List Portal → ℕ → Type 0 where
  arrives : (a w : Point) (parts : ℕ) → AreAlong w (from_to a goal) → IsWithin parts a goal → IsHeld goal a w [] parts
  passes : (a w : Point) (portal : Portal) (portals : List Portal) (parts : ℕ) → IsHeld goal a w portals parts → IsHeld goal a w (portal ∷ portals) parts
  goes : (a w c : Point) (portals : List Portal) (parts more : ℕ) → AreAlong w (from_to a c) → IsWithin parts a c → IsHeld goal c w portals more
      → IsHeld goal a w portals (parts + more)
  turns : (a w w' other : Point) (portal : Portal) (portals : List Portal) (parts : ℕ) → AreEnds portal a other → IsPivot w w' (from_to a other) → 0 < square_of w'
      → 0 < square_of (from_to a other) → IsHeld goal a w' (portal ∷ portals) parts → IsHeld goal a w (portal ∷ portals) parts

-- ---- a line's point on a portal, seen from an end

abbrev far : ℕ → Place
far k = record { x = product (at 6) (at (2 * k)); z = product (at 6) (at (2 * k + 1)) }

abbrev listed : ℕ → Point → Point → Point → List ℤ
listed d l r p = l.x ∷ l.z ∷ r.x ∷ r.z ∷ p.x ∷ p.z ∷ pos d ∷ []

seen_left : (d : ℕ) (l r p : Point) → orient_of (spread d l) (spread d r) p ≡ pos d *ℤ cross_of (from_to l r) (from_to (spread d l) p)
unfolding orient_of cross_of dot_of
seen_left d l r p = equal (listed d l r p) (orient_term (far 0) (far 1) (place 2)) (product (at 6) (cross_term (from_to_term (place 0) (place 1)) (from_to_term (far 0) (place 2)))) refl

seen_right : (d : ℕ) (l r p : Point) → orient_of (spread d l) (spread d r) p ≡ pos d *ℤ cross_of (from_to (spread d r) p) (from_to r l)
unfolding orient_of cross_of dot_of
seen_right d l r p = equal (listed d l r p) (orient_term (far 0) (far 1) (place 2)) (product (at 6) (cross_term (from_to_term (far 1) (place 2)) (from_to_term (place 1) (place 0)))) refl

between_left : (d : ℕ) (l r p : Point)
    → dot_of (from_to p (spread d l)) (from_to p (spread d r)) ≡ dot_of (from_to (spread d l) p) (from_to (spread d l) p) -ℤ pos d *ℤ dot_of (from_to l r) (from_to (spread d l) p)
unfolding orient_of cross_of dot_of
between_left d l r p =
    let v = from_to_term (far 0) (place 2) in
    equal (listed d l r p) (dot_term (from_to_term (place 2) (far 0)) (from_to_term (place 2) (far 1))) (difference (dot_term v v) (product (at 6) (dot_term (from_to_term (place 0) (place 1)) v))) refl

between_right : (d : ℕ) (l r p : Point)
    → dot_of (from_to p (spread d l)) (from_to p (spread d r)) ≡ dot_of (from_to (spread d r) p) (from_to (spread d r) p) -ℤ pos d *ℤ dot_of (from_to r l) (from_to (spread d r) p)
unfolding orient_of cross_of dot_of
between_right d l r p =
    let v = from_to_term (far 1) (place 2) in
    equal (listed d l r p) (dot_term (from_to_term (place 2) (far 0)) (from_to_term (place 2) (far 1))) (difference (dot_term v v) (product (at 6) (dot_term (from_to_term (place 1) (place 0)) v))) refl

positive : (d : ℕ) → 0 < d → pos 0 <ℤ pos d
positive d some = omega (arith, ints)

onward : (d s : ℕ) (b w t : ℤ) → 0 < d → w ≡ pos s → b ≡ w -ℤ pos d *ℤ t → b ≤ℤ pos 0 → pos 0 ≤ℤ t
onward d s b w t some is same h = factor-not_negative (pos d) t (positive d some) (low (pos d *ℤ t) is same h)
  where
    low : (n : ℤ) → w ≡ pos s → b ≡ w -ℤ n → b ≤ℤ pos 0 → pos 0 ≤ℤ n
    low n is same h = omega (arith, ints)

-- a point of a portal lies from an end of it towards the other
pub record LiesToward (d : ℕ) (a other p : Point) : Type 0 where
  pub on : cross_of (from_to a other) (from_to (spread d a) p) ≡ pos 0
  pub onward : pos 0 ≤ℤ dot_of (from_to a other) (from_to (spread d a) p)

lies_toward : (d : ℕ) (portal : Portal) (a other p : Point) → 0 < d → AreEnds portal a other → IsOn d portal p → LiesToward d a other p
lies_toward d portal a other p some (inl (is_end, is_other)) on =
    subst (λ (q : Point). LiesToward d q other p) (sym is_end) (subst (λ (q : Point). LiesToward d portal.left q p) (sym is_other) (record {
      on = factor-zero (pos d) (cross_of (from_to portal.left portal.right) (from_to (spread d portal.left) p)) (positive d some) (sym (seen_left d portal.left portal.right p) ∙ on.on_line);
      onward = onward d (square_of (from_to (spread d portal.left) p)) (dot_of (from_to p (spread d portal.left)) (from_to p (spread d portal.right))) (dot_of (from_to (spread d portal.left) p) (from_to (spread d portal.left) p))
          (dot_of (from_to portal.left portal.right) (from_to (spread d portal.left) p)) some (dot_of-itself (from_to (spread d portal.left) p)) (between_left d portal.left portal.right p) on.between;
    }))
lies_toward d portal a other p some (inr (is_end, is_other)) on =
    subst (λ (q : Point). LiesToward d q other p) (sym is_end) (subst (λ (q : Point). LiesToward d portal.right q p) (sym is_other) (record {
      on = turned (cross_of (from_to (spread d portal.right) p) (from_to portal.right portal.left)) (cross_of-exchanged (from_to (spread d portal.right) p) (from_to portal.right portal.left))
          (factor-zero (pos d) (cross_of (from_to (spread d portal.right) p) (from_to portal.right portal.left)) (positive d some) (sym (seen_right d portal.left portal.right p) ∙ on.on_line));
      onward = onward d (square_of (from_to (spread d portal.right) p)) (dot_of (from_to p (spread d portal.left)) (from_to p (spread d portal.right))) (dot_of (from_to (spread d portal.right) p) (from_to (spread d portal.right) p))
          (dot_of (from_to portal.right portal.left) (from_to (spread d portal.right) p)) some (dot_of-itself (from_to (spread d portal.right) p)) (between_right d portal.left portal.right p) on.between;
    }))
  where
    turned : {n : ℤ} (m : ℤ) → n ≡ neg_ℤ m → m ≡ pos 0 → n ≡ pos 0
    turned m e none = e ∙ ap neg_ℤ none

-- ---- what a line has at least from a point on, at every scale

pub record IsBound (a w : Point) (d parts r : ℕ) (x : Point) : Type 0 where
  pub slack : ℕ
  pub each : (m n : ℕ) → IsScale m w n → pos (m * (d * parts)) ≤ℤ (pos (4096 * (m * r)) +ℤ pos 4096 *ℤ (pos n *ℤ dot_of w (from_to (spread d a) x)) +ℤ pos slack)

-- how far a point lies along a direction from a, by way of another
by_way : (d : ℕ) (w a c x : Point) → dot_of w (from_to (spread d a) x) ≡ dot_of w (from_to (spread d c) x) +ℤ pos d *ℤ dot_of w (from_to a c)
unfolding dot_of
by_way d w a c x =
    equal (listed d a c x ++ w.x ∷ w.z ∷ []) (dot_term along (from_to_term (far 0) (place 2))) (sum (dot_term along (from_to_term (far 1) (place 2))) (product (at 6) (dot_term along (from_to_term (place 0) (place 1))))) refl
  where
    along : Place
    along = record { x = at 7; z = at 8 }

by_point : (w b p x : Point) → dot_of w (from_to b p) ≡ dot_of w (from_to b x) +ℤ dot_of w (from_to x p)
unfolding dot_of
by_point w b p x = equal (coordinates (w ∷ b ∷ p ∷ x ∷ [])) (dot_term (place 0) (from_to_term (place 1) (place 2))) (sum (dot_term (place 0) (from_to_term (place 1) (place 3))) (dot_term (place 0) (from_to_term (place 3) (place 2)))) refl

-- a way of some parts along a direction, at a scale
leg : (m n d parts t : ℕ) → m * parts ≤ 4096 * (n + 1) * t → m * (d * parts) ≤ 4096 * (n * (d * t)) + 4096 * (d * t)
leg m n d parts t h = let whole : d * (m * parts) ≤ d * (4096 * (n + 1) * t) = mul-le d (m * parts) d (4096 * (n + 1) * t) (omega arith) h in grind (arith, whole)

times : (n : ℕ) (a b : ℤ) (d t : ℕ) → a ≡ b +ℤ pos d *ℤ pos t → pos n *ℤ a ≡ pos n *ℤ b +ℤ pos (n * (d * t))
times n a b d t e = ap (λ (k : ℤ). pos n *ℤ k) e ∙ equal (pos n ∷ b ∷ pos d ∷ pos t ∷ []) (product (at 0) (sum (at 1) (product (at 2) (at 3)))) (sum (product (at 0) (at 1)) (product (at 0) (product (at 2) (at 3)))) refl

-- ---- the four ways on

arrive_closes : (parts slack turned straight : ℕ) (here there : ℤ) → parts ≤ 4096 * straight + 4096 * slack → here ≡ there +ℤ pos straight → (neg_ℤ there) ≤ℤ pos turned
    → pos parts ≤ℤ (pos (4096 * turned) +ℤ pos 4096 *ℤ here +ℤ pos (4096 * slack))
arrive_closes parts slack turned straight here there h same low = omega (arith, ints)

turned_back : (w a b : Point) → dot_of w (from_to a b) ≡ neg_ℤ (dot_of w (from_to b a))
unfolding dot_of
turned_back w a b = equal (coordinates (w ∷ a ∷ b ∷ [])) (dot_term (place 0) (from_to_term (place 1) (place 2))) (opposite (dot_term (place 0) (from_to_term (place 2) (place 1)))) refl

times_opposite : (n : ℕ) (a : ℤ) → pos n *ℤ neg_ℤ a ≡ neg_ℤ (pos n *ℤ a)
times_opposite n a = equal (pos n ∷ a ∷ []) (product (at 0) (opposite (at 1))) (opposite (product (at 0) (at 1))) refl

along_way : (n d : ℕ) (w a c x : Point) → AreAlong w (from_to a c)
    → pos n *ℤ dot_of w (from_to (spread d a) x) ≡ pos n *ℤ dot_of w (from_to (spread d c) x) +ℤ pos (n * (d * unsigned_abs (dot_of w (from_to a c))))
along_way n d w a c x along =
    times n (dot_of w (from_to (spread d a) x)) (dot_of w (from_to (spread d c) x)) d (unsigned_abs (dot_of w (from_to a c)))
    (by_way d w a c x ∙ (λ i. dot_of w (from_to (spread d c) x) +ℤ pos d *ℤ absolute-same (dot_of w (from_to a c)) along.onward i))

bound_arrives : (d r parts : ℕ) (goal a w x : Point) → AreAlong w (from_to a goal) → IsWithin parts a goal → Reaches r x (spread d goal) → IsBound a w d parts r x
bound_arrives d r parts goal a w x along within reach = record {
  slack = 4096 * (d * unsigned_abs (dot_of w (from_to a goal)));
  each = λ m n is.
      arrive_closes (m * (d * parts)) (d * unsigned_abs (dot_of w (from_to a goal))) (m * r) (n * (d * unsigned_abs (dot_of w (from_to a goal)))) (pos n *ℤ dot_of w (from_to (spread d a) x)) (pos n *ℤ dot_of w (from_to (spread d goal) x))
      (leg m n d parts (unsigned_abs (dot_of w (from_to a goal))) (along_bound m n parts w (from_to a goal) along is.high within))
      (along_way n d w a goal x along)
      (subst (λ (k : ℤ). k ≤ℤ pos (m * r)) (ap (λ (k : ℤ). pos n *ℤ k) (turned_back w x (spread d goal)) ∙ times_opposite n (dot_of w (from_to (spread d goal) x))) (scalar_bound m n r w (from_to x (spread d goal)) is.low reach));
}

pass_closes : (parts m q s r slack : ℕ) (here there step : ℤ) → q + s ≡ r → there ≡ here +ℤ step → step ≤ℤ pos (m * q)
    → pos parts ≤ℤ (pos (4096 * (m * s)) +ℤ pos 4096 *ℤ there +ℤ pos slack) → pos parts ≤ℤ (pos (4096 * (m * r)) +ℤ pos 4096 *ℤ here +ℤ pos slack)
pass_closes parts m q s r slack here there step added same low h = close (m * q) (m * s) (m * r) (subst (λ (k : ℕ). m * q + m * s ≡ m * k) added (omega arith)) low h
  where
    close : (u v t : ℕ) → u + v ≡ t → step ≤ℤ pos u → pos parts ≤ℤ (pos (4096 * v) +ℤ pos 4096 *ℤ there +ℤ pos slack) → pos parts ≤ℤ (pos (4096 * t) +ℤ pos 4096 *ℤ here +ℤ pos slack)
    close u v t e low h = omega (arith, ints)

spread_step : (n d : ℕ) (w a p x : Point) → pos n *ℤ dot_of w (from_to (spread d a) p) ≡ pos n *ℤ dot_of w (from_to (spread d a) x) +ℤ pos n *ℤ dot_of w (from_to x p)
spread_step n d w a p x =
    ap (λ (k : ℤ). pos n *ℤ k) (by_point w (spread d a) p x)
    ∙ equal (pos n ∷ dot_of w (from_to (spread d a) x) ∷ dot_of w (from_to x p) ∷ []) (product (at 0) (sum (at 1) (at 2))) (sum (product (at 0) (at 1)) (product (at 0) (at 2))) refl

bound_passes : (d r q s parts : ℕ) (a w x p : Point) → Reaches q x p → q + s ≡ r → IsBound a w d parts s p → IsBound a w d parts r x
bound_passes d r q s parts a w x p reach same bound = record {
  slack = bound.slack;
  each = λ m n is.
      pass_closes (m * (d * parts)) m q s r bound.slack (pos n *ℤ dot_of w (from_to (spread d a) x)) (pos n *ℤ dot_of w (from_to (spread d a) p)) (pos n *ℤ dot_of w (from_to x p)) same
      (spread_step n d w a p x) (scalar_bound m n q w (from_to x p) is.low reach) (bound.each m n is);
}

go_closes : (first more slack turned straight spare : ℕ) (here there : ℤ) → first ≤ 4096 * straight + 4096 * spare → here ≡ there +ℤ pos straight
    → pos more ≤ℤ (pos (4096 * turned) +ℤ pos 4096 *ℤ there +ℤ pos slack) → pos (first + more) ≤ℤ (pos (4096 * turned) +ℤ pos 4096 *ℤ here +ℤ pos (slack + 4096 * spare))
go_closes first more slack turned straight spare here there h same low = omega (arith, ints)

bound_goes : (d r parts more : ℕ) (a w c x : Point) → AreAlong w (from_to a c) → IsWithin parts a c → IsBound c w d more r x → IsBound a w d (parts + more) r x
bound_goes d r parts more a w c x along within bound = record {
  slack = bound.slack + 4096 * (d * unsigned_abs (dot_of w (from_to a c)));
  each = λ m n is.
      subst (λ (k : ℕ). pos k ≤ℤ (pos (4096 * (m * r)) +ℤ pos 4096 *ℤ (pos n *ℤ dot_of w (from_to (spread d a) x)) +ℤ pos (bound.slack + 4096 * (d * unsigned_abs (dot_of w (from_to a c)))))) (both m)
      (go_closes (m * (d * parts)) (m * (d * more)) bound.slack (m * r) (n * (d * unsigned_abs (dot_of w (from_to a c)))) (d * unsigned_abs (dot_of w (from_to a c))) (pos n *ℤ dot_of w (from_to (spread d a) x)) (pos n *ℤ dot_of w (from_to (spread d c) x))
      (leg m n d parts (unsigned_abs (dot_of w (from_to a c))) (along_bound m n parts w (from_to a c) along is.high within))
      (along_way n d w a c x along) (bound.each m n is));
}
  where
    both : (m : ℕ) → m * (d * parts) + m * (d * more) ≡ m * (d * (parts + more))
    both m = omega arith

turn_closes : (parts turned slack spare : ℕ) (here there : ℤ) → there ≤ℤ (here +ℤ pos spare) → pos parts ≤ℤ (pos (4096 * turned) +ℤ pos 4096 *ℤ there +ℤ pos slack)
    → pos parts ≤ℤ (pos (4096 * turned) +ℤ pos 4096 *ℤ here +ℤ pos (slack + 4096 * spare))
turn_closes parts turned slack spare here there h low = omega (arith, ints)

bound_turns : (d s parts : ℕ) (a w w' other p : Point) → IsPivot w w' (from_to a other) → 0 < square_of w' → 0 < square_of (from_to a other) → LiesToward d a other p
    → IsBound a w' d parts s p → IsBound a w d parts s p
bound_turns d s parts a w w' other p pivot some some' toward bound = record {
  slack = bound.slack + 4096 * slack_of w w' (from_to a other) (from_to (spread d a) p) pivot;
  each = λ m n is. by m n is (scale m w' some);
}
  where
    by : (m n : ℕ) → IsScale m w n → ((n' : ℕ) × IsScale m w' n')
        → pos (m * (d * parts)) ≤ℤ (pos (4096 * (m * s)) +ℤ pos 4096 *ℤ (pos n *ℤ dot_of w (from_to (spread d a) p)) +ℤ pos (bound.slack + 4096 * slack_of w w' (from_to a other) (from_to (spread d a) p) pivot))
    by m n is (n', is') =
        turn_closes (m * (d * parts)) (m * s) bound.slack (slack_of w w' (from_to a other) (from_to (spread d a) p) pivot) (pos n *ℤ dot_of w (from_to (spread d a) p)) (pos n' *ℤ dot_of w' (from_to (spread d a) p))
        (pivot_bound m n n' w w' (from_to a other) (from_to (spread d a) p) pivot is is' some' toward.on toward.onward) (bound.each m n' is')

still : (p : Point) → Reaches 0 p p
unfolding dot_of
still p = none (ap unsigned_abs (equal (coordinates (p ∷ [])) (dot_term (from_to_term (place 0) (place 0)) (from_to_term (place 0) (place 0))) (number (pos 0)) refl))
  where
    none : square_of (from_to p p) ≡ 0 → square_of (from_to p p) ≤ 0 * 0
    none e = omega (arith, e)

-- ---- the whole

nothing_more : (s : ℕ) → 0 + s ≡ s
nothing_more s = omega arith

held_bound : (goal : Point) {a w : Point} {portals : List Portal} {parts : ℕ} → IsHeld goal a w portals parts → (d r : ℕ) (x : Point) → 0 < d
    → IsLine d x portals (spread d goal) r → IsBound a w d parts r x
held_bound goal (arrives a w parts along within) d r x some line = bound_arrives d r parts goal a w x along within line
held_bound goal (passes a w portal more parts held) d r x some (p, q, s, on, reach, rest, same) =
    bound_passes d r q s parts a w x p reach same (held_bound goal held d s p some rest)
held_bound goal (goes a w c portals first more along within held) d r x some line =
    bound_goes d r first more a w c x along within (held_bound goal held d r x some line)
held_bound goal (turns a w w' other portal more parts ends pivot some' apart held) d r x some (p, q, s, on, reach, rest, same) =
    bound_passes d r q s parts a w x p reach same
    (bound_turns d s parts a w w' other p pivot some' apart (lies_toward d portal a other p some ends on)
    (held_bound goal held d s p some (p, 0, s, on, still p, rest, nothing_more s)))

-- no line over the portals is shorter than a line that is held
pub held_under : (goal start w : Point) (portals : List Portal) (parts : ℕ) → 0 < square_of w → IsHeld goal start w portals parts → IsUnder portals start goal parts
unfolding dot_of
held_under goal start w portals parts some held = record { each = λ d r some' line. whole d r (held_bound goal held d r (spread d start) some' line) }
  where
    none : (d : ℕ) → dot_of w (from_to (spread d start) (spread d start)) ≡ pos 0
    none d = equal (coordinates (w ∷ spread d start ∷ [])) (dot_term (place 0) (from_to_term (place 1) (place 1))) (number (pos 0)) refl

    least : (m a b slack : ℕ) → m * a ≤ m * b + slack → slack < m → a ≤ b
    least m a b slack h few = elim (cases_lt b a) [ inl below ↦ absurd (over m a b slack h few below) | inr above ↦ above ]
      where
        over : (m a b slack : ℕ) → m * a ≤ m * b + slack → slack < m → b < a → ⊥
        over m a b slack h few below = let more : m * (b + 1) ≤ m * a = mul-le m (b + 1) m a (omega arith) (omega (arith, below)) in omega (arith, more)

    whole : (d r : ℕ) → IsBound start w d parts r (spread d start) → parts * d ≤ 4096 * r
    whole d r bound = by (scale (bound.slack + 1) w some)
      where
        over : (m n k slack parts : ℕ) (q : ℤ) → q ≡ pos 0 → pos parts ≤ℤ (pos (4096 * k) +ℤ pos 4096 *ℤ (pos n *ℤ q) +ℤ pos slack) → parts ≤ 4096 * k + slack
        over m n k slack parts q none h = weak (pos n *ℤ q) (ap (λ (t : ℤ). pos n *ℤ t) none ∙ *ℤ-zero (pos n)) h
          where
            weak : (t : ℤ) → t ≡ pos 0 → pos parts ≤ℤ (pos (4096 * k) +ℤ pos 4096 *ℤ t +ℤ pos slack) → parts ≤ 4096 * k + slack
            weak t e h = omega (arith, ints)

        turned : (m : ℕ) → m * (d * parts) ≤ 4096 * (m * r) + bound.slack → m * (parts * d) ≤ m * (4096 * r) + bound.slack
        turned m h = grind (arith, h)

        by : ((n : ℕ) × IsScale (bound.slack + 1) w n) → parts * d ≤ 4096 * r
        by (n, is) =
            least (bound.slack + 1) (parts * d) (4096 * r) bound.slack
            (turned (bound.slack + 1) (over (bound.slack + 1) n ((bound.slack + 1) * r) bound.slack ((bound.slack + 1) * (d * parts)) (dot_of w (from_to (spread d start) (spread d start))) (none d) (bound.each (bound.slack + 1) n is)))
            (omega arith)
