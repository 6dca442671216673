-- A turn along a line rises or falls evenly, so the places to the left of an edge are those up to one, or from one on.
use Rattle.std.proofs.Common.{◌≡◌, ℕ, suc, ◌+◌, ◌*◌, ◌/◌, ◌%◌, ◌-◌, ◌≤◌, ◌<◌, ℤ, pos, negsuc, ◌+ℤ◌, ◌-ℤ◌, ◌*ℤ◌, ◌≤ℤ◌, ◌⊎◌, inl, inr, [], ◌∷◌, ◌++◌, length, refl, sym, ap, subst, ◌∙◌, arith}
use Rattle.std.specs.Prelude.{None, unsigned_abs}
use Rattle.std.specs.Int.{div_ceil}
use Rattle.std.proofs.lemmas.Bool.{cases_lt}
use Rattle.std.proofs.lemmas.Int.{ints}
use Rattle.std.proofs.lemmas.Nat.{mul-le, div-add-mod'}
use Rattle.std.proofs.Math.Nat.{mod-lt}
use Rattle.nav_base.specs.declared.point.Point.{Point}
use Rattle.nav_base.specs.Point.{dot_of, cross_of, orient_of}
use Rattle.nav_base.proofs.Polynomials.{at, sum, difference, product, equal}
use Rattle.nav_base.proofs.PointTerms.{place, coordinates, orient_term}
use Rattle.mesh_types.specs.declared.polygon.Polygon.{Polygon}
use Rattle.mesh_types.specs.Located.{Holds}
use Rattle.mesh_types.specs.Rays.{side_of}
use Rattle.mesh_place.specs.declared.lines.LineSpan.{LineSpan}
use Rattle.mesh_place.specs.Lines.{IsInSpan, IsSpan, IsPartOf, IsPartWhere, IsHeldBefore, point_on, right_of}

-- ---- whole numbers rounded up

ceiling_above : (x s : ℕ) → 0 < s → (x ≤ div_ceil x s * s) × (div_ceil x s * s < x + s)
ceiling_above x s some = elim (cases_lt 0 (x % s)) [
  | inl more ↦ let e : div_ceil x s ≡ x / s + 1 = omega arith in (
    omega (arith, div-add-mod' x s, mul-le (x / s + 1) s (div_ceil x s) s (omega (arith, e)) (omega arith), less),
    omega (arith, div-add-mod' x s, mul-le (div_ceil x s) s (x / s + 1) s (omega (arith, e)) (omega arith), more),
  )
  | inr none ↦ let e : div_ceil x s ≡ x / s = omega arith in (
    omega (arith, div-add-mod' x s, mul-le (x / s) s (div_ceil x s) s (omega (arith, e)) (omega arith), none),
    omega (arith, div-add-mod' x s, mul-le (div_ceil x s) s (x / s) s (omega (arith, e)) (omega arith), none, some),
  )
]
  where
    less : x % s < s
    less = mod-lt x some

ceiling_least : (x s k : ℕ) → 0 < s → x ≤ k * s → div_ceil x s ≤ k
ceiling_least x s k some most =
    elim (cases_lt k (div_ceil x s)) [
      | inl more ↦ absurd (omega (arith, (ceiling_above x s some).1, mul-le (k + 1) s (div_ceil x s) s (omega (arith, more)) (omega arith), most))
      | inr less ↦ less
    ]

ceiling_enough : (x s k : ℕ) → 0 < s → div_ceil x s ≤ k → x ≤ k * s
ceiling_enough x s k some most = omega (arith, (ceiling_above x s some).0, mul-le (div_ceil x s) s k s most (omega arith))

-- ---- turns along a line

-- an even rise or fall, of so much each place
abbrev Rises : (ℕ → ℤ) → ℕ → Type 0
Rises f e = (a x : ℕ) → a ≤ x → f x ≡ f a +ℤ pos ((x - a) * e)

abbrev Falls : (ℕ → ℤ) → ℕ → Type 0
Falls f e = (a x : ℕ) → a ≤ x → f a ≡ f x +ℤ pos ((x - a) * e)

abbrev pub turn_on : Point → Point → ℕ → ℕ → ℤ
turn_on u v z x = orient_of u v (point_on x z)

even : (u v : Point) (z a x : ℤ)
    → orient_of u v (record { x = x; z = z }) ≡ orient_of u v (record { x = a; z = z }) -ℤ (v.z -ℤ u.z) *ℤ (x -ℤ a)
unfolding cross_of dot_of orient_of
even u v z a x =
    equal (coordinates (u ∷ v ∷ []) ++ z ∷ a ∷ x ∷ [])
    (orient_term (place 0) (place 1) (record { x = at 6; z = at 4 }))
    (difference (orient_term (place 0) (place 1) (record { x = at 5; z = at 4 })) (product (difference (place 1).z (place 0).z) (difference (at 6) (at 5)))) refl

apart : (a x : ℕ) → a ≤ x → (pos x -ℤ pos a) ≡ pos (x - a)
apart a x h = omega (arith, ints)

pub turns : (u v : Point) (z : ℕ) → Falls (turn_on u v z) (unsigned_abs (v.z -ℤ u.z)) ⊎ Rises (turn_on u v z) (unsigned_abs (v.z -ℤ u.z))
turns u v z = by (v.z -ℤ u.z) refl
  where
    step : (a x : ℕ) (d : ℤ) → (v.z -ℤ u.z) ≡ d → a ≤ x → turn_on u v z x ≡ turn_on u v z a -ℤ d *ℤ pos (x - a)
    step a x d is h =
        even u v (pos z) (pos a) (pos x) ∙ ap (λ (n : ℤ). turn_on u v z a -ℤ n *ℤ (pos x -ℤ pos a)) is
        ∙ ap (λ (n : ℤ). turn_on u v z a -ℤ d *ℤ n) (apart a x h)

    fall : (f g : ℤ) (e k : ℕ) → g ≡ f -ℤ pos e *ℤ pos k → f ≡ g +ℤ pos (k * e)
    fall f g e k is = omega (arith, ints)

    rise : (f g : ℤ) (e k : ℕ) → g ≡ f -ℤ negsuc e *ℤ pos k → g ≡ f +ℤ pos (k * suc e)
    rise f g e k is = omega (arith, ints)

    by : (d : ℤ) → (v.z -ℤ u.z) ≡ d → Falls (turn_on u v z) (unsigned_abs (v.z -ℤ u.z)) ⊎ Rises (turn_on u v z) (unsigned_abs (v.z -ℤ u.z))
    by (pos e) is =
        inl (subst (Falls (turn_on u v z)) (sym (ap unsigned_abs is)) (λ a x h. fall (turn_on u v z a) (turn_on u v z x) e (x - a) (step a x (pos e) is h)))
    by (negsuc e) is =
        inr (subst (Rises (turn_on u v z)) (sym (ap unsigned_abs is)) (λ a x h. rise (turn_on u v z a) (turn_on u v z x) e (x - a) (step a x (negsuc e) is h)))

-- ---- the leftmost point over a cell

apart_left : (s t a q : Point) → orient_of s t a ≡ orient_of s t q +ℤ (s.z -ℤ t.z) *ℤ (a.x -ℤ q.x) +ℤ (t.x -ℤ s.x) *ℤ (a.z -ℤ q.z)
unfolding cross_of dot_of orient_of
apart_left s t a q =
    equal (coordinates (s ∷ t ∷ a ∷ q ∷ [])) (orient_term (place 0) (place 1) (place 2))
    (sum
    (sum (orient_term (place 0) (place 1) (place 3))
    (product (difference (place 0).z (place 1).z) (difference (place 2).x (place 3).x)))
    (product (difference (place 1).x (place 0).x) (difference (place 2).z (place 3).z))) refl

-- a point that lies on from another, across and along, on the ways that lead to the left of a line, is no less to the left
pub leftmost : (s t q : Point) (f g m n : ℕ) (fall rise : ℤ) → q.x ≡ pos m → q.z ≡ pos n → fall ≡ (s.z -ℤ t.z) → rise ≡ (t.x -ℤ s.x)
    → pos 0 ≤ℤ (fall *ℤ (pos f -ℤ pos m)) → pos 0 ≤ℤ (rise *ℤ (pos g -ℤ pos n)) → orient_of s t q ≤ℤ orient_of s t (point_on f g)
leftmost s t q f g m n fall rise across along falls rises more more' =
    no_less (orient_of s t (point_on f g)) (orient_of s t q) ((s.z -ℤ t.z) *ℤ (pos f -ℤ q.x)) ((t.x -ℤ s.x) *ℤ (pos g -ℤ q.z))
    (apart_left s t (point_on f g) q)
    (subst (λ (k : ℤ). pos 0 ≤ℤ k) (λ i. falls i *ℤ (pos f -ℤ sym across i)) more)
    (subst (λ (k : ℤ). pos 0 ≤ℤ k) (λ i. rises i *ℤ (pos g -ℤ sym along i)) more')
  where
    no_less : (a b k l : ℤ) → a ≡ b +ℤ k +ℤ l → pos 0 ≤ℤ k → pos 0 ≤ℤ l → b ≤ℤ a
    no_less a b k l is first second = omega (arith, ints)

-- ---- to the left, to the right

pub left_is : (n : ℤ) → right_of n ≡ 0 → pos 0 ≤ℤ n
left_is (pos n) none = omega (arith, ints)
left_is (negsuc n) none = absurd (omega (arith, none))

-- a turn and what is added to it
add_left : (f g : ℤ) (w : ℕ) → f ≡ g +ℤ pos w → pos 0 ≤ℤ g → pos 0 ≤ℤ f
add_left f g w is left = omega (arith, ints)

add_right : (f g : ℤ) (w : ℕ) → f ≡ g +ℤ pos w → pos 0 ≤ℤ g → 0 < right_of f → ⊥
add_right (pos n) g w is left some = omega (arith, some)
add_right (negsuc n) g w is left some = omega (arith, ints)

less_right : (f g : ℤ) (w : ℕ) → f ≡ g +ℤ pos w → 0 < right_of f → pos 0 ≤ℤ g → ⊥
less_right f g w is some left = add_right f g w is left some

enough : (f g : ℤ) (w : ℕ) → f ≡ g +ℤ pos w → right_of g ≤ w → pos 0 ≤ℤ f
enough f (pos n) w is most = omega (arith, ints)
enough f (negsuc n) w is most = omega (arith, ints)

needed : (f g : ℤ) (w : ℕ) → f ≡ g +ℤ pos w → pos 0 ≤ℤ f → right_of g ≤ w
needed f (pos n) w is left = omega arith
needed f (negsuc n) w is left = omega (arith, ints)

module _ (u v : Point) (z : ℕ) (span : LineSpan) (rules : IsSpan span) where
  abbrev f : ℕ → ℤ
  f = turn_on u v z

  abbrev e : ℕ
  e = unsigned_abs (v.z -ℤ u.z)

  abbrev IsLeft : ℕ → Type 0
  IsLeft x = pos 0 ≤ℤ f x

  -- both ends to the left
  pub both_left : right_of (f span.first) ≡ 0 → right_of (f span.last) ≡ 0 → IsPartOf IsLeft span span
  both_left first last = record {
    order = rules.order;
    begins = omega arith;
    ends = omega arith;
    are = λ x in_span. here x in_span (turns u v z);
    all = λ x in_span left. in_span;
  }
    where
      here : (x : ℕ) → IsInSpan span x → Falls f e ⊎ Rises f e → pos 0 ≤ℤ f x
      here x in_span (inl falls) = add_left (f x) (f span.last) _ (falls x span.last in_span.last) (left_is (f span.last) last)
      here x in_span (inr rises) = add_left (f x) (f span.first) _ (rises span.first x in_span.first) (left_is (f span.first) first)

  -- both to the right
  pub both_right : 0 < right_of (f span.first) → 0 < right_of (f span.last) → (x : ℕ) → IsInSpan span x → pos 0 ≤ℤ f x → ⊥
  both_right first last x in_span left = by (turns u v z)
    where
      by : Falls f e ⊎ Rises f e → ⊥
      by (inl falls) = less_right (f span.first) (f x) _ (falls span.first x in_span.first) first left
      by (inr rises) = less_right (f span.last) (f x) _ (rises x span.last in_span.last) last left

  -- the first to the right, the last to the left
  pub record IsRise : Type 0 where
    pub rises : Rises f e
    pub some : 0 < e
    pub few : div_ceil (right_of (f span.first)) e ≤ span.last - span.first

  flat : (g h : ℤ) (k n : ℕ) → g ≡ h +ℤ pos (k * n) → n ≡ 0 → g ≡ h
  flat g h k n is none = is ∙ ap (λ (m : ℕ). h +ℤ pos (k * m)) none ∙ nothing h k
    where
      nothing : (h : ℤ) (k : ℕ) → (h +ℤ pos (k * 0)) ≡ h
      nothing h k = omega (arith, ints)

  pub rise_of : 0 < right_of (f span.first) → right_of (f span.last) ≡ 0 → IsRise
  rise_of first last = by (turns u v z)
    where
      up_to : Rises f e → f span.last ≡ f span.first +ℤ pos ((span.last - span.first) * e)
      up_to rises = rises span.first span.last rules.order

      some : Rises f e → 0 < e
      some rises =
          elim (cases_lt 0 e) [
            | inl more ↦ more
            | inr none ↦
                let same : f span.last ≡ f span.first = flat (f span.last) (f span.first) (span.last - span.first) e (up_to rises) (omega (arith, none)) in
                absurd (omega (arith, first, last, ap right_of same))
          ]

      by : Falls f e ⊎ Rises f e → IsRise
      by (inl falls) =
          absurd (add_right (f span.first) (f span.last) _ (falls span.first span.last rules.order) (left_is (f span.last) last) first)
      by (inr rises) = record {
        rises = rises;
        some = some rises;
        few = ceiling_least (right_of (f span.first)) e (span.last - span.first) (some rises)
            (needed (f span.last) (f span.first) _ (up_to rises) (left_is (f span.last) last));
      }

  pub rising : (rise : IsRise) → (first : ℕ) → first ≡ span.first + div_ceil (right_of (f span.first)) e
      → IsPartOf IsLeft span (record { first = first; last = span.last })
  rising rise first is =
      let order = rules.order in
      let few = rise.few in
      record {
        order = omega (arith, is, few, order);
        begins = omega (arith, is);
        ends = omega arith;
        are = λ x in_part.
            let low = in_part.first in
            enough (f x) (f span.first) _ (rise.rises span.first x (omega (arith, low, is)))
            (ceiling_enough (right_of (f span.first)) e (x - span.first) rise.some (omega (arith, low, is)));
        all = λ x in_span left. record {
          first =
              let low = in_span.first in
              omega (
                arith,
                is,
                low,
                ceiling_least (right_of (f span.first)) e (x - span.first) rise.some
                    (needed (f x) (f span.first) _ (rise.rises span.first x low) left),
              );
          last = in_span.last;
        };
      }

  -- the first to the left, the last to the right
  pub record IsFall : Type 0 where
    pub falls : Falls f e
    pub some : 0 < e
    pub few : div_ceil (right_of (f span.last)) e ≤ span.last - span.first

  pub fall_of : right_of (f span.first) ≡ 0 → 0 < right_of (f span.last) → IsFall
  fall_of first last = by (turns u v z)
    where
      down_to : Falls f e → f span.first ≡ f span.last +ℤ pos ((span.last - span.first) * e)
      down_to falls = falls span.first span.last rules.order

      some : Falls f e → 0 < e
      some falls =
          elim (cases_lt 0 e) [
            | inl more ↦ more
            | inr none ↦
                let same : f span.first ≡ f span.last = flat (f span.first) (f span.last) (span.last - span.first) e (down_to falls) (omega (arith, none)) in
                absurd (omega (arith, first, last, ap right_of same))
          ]

      by : Falls f e ⊎ Rises f e → IsFall
      by (inr rises) =
          absurd (add_right (f span.last) (f span.first) _ (rises span.first span.last rules.order) (left_is (f span.first) first) last)
      by (inl falls) = record {
        falls = falls;
        some = some falls;
        few = ceiling_least (right_of (f span.last)) e (span.last - span.first) (some falls)
            (needed (f span.first) (f span.last) _ (down_to falls) (left_is (f span.first) first));
      }

  pub falling : (fall : IsFall) → (last : ℕ) → last ≡ span.last - div_ceil (right_of (f span.last)) e
      → IsPartOf IsLeft span (record { first = span.first; last = last })
  falling fall last is =
      let order = rules.order in
      let few = fall.few in
      record {
        order = omega (arith, is, few, order);
        begins = omega arith;
        ends = omega (arith, is);
        are = λ x in_part.
            let high = in_part.last in
            enough (f x) (f span.last) _ (fall.falls x span.last (omega (arith, high, is)))
            (ceiling_enough (right_of (f span.last)) e (span.last - x) fall.some (omega (arith, high, is, few, order)));
        all = λ x in_span left. record {
          first = in_span.first;
          last =
              let high = in_span.last in
              omega (
                arith,
                is,
                high,
                ceiling_least (right_of (f span.last)) e (span.last - x) fall.some
                    (needed (f x) (f span.last) _ (fall.falls x span.last high) left),
              );
        };
      }

-- ---- edge by edge

module _ (polygon : Polygon) (z : ℕ) (span part : LineSpan) (edge : ℕ)
    (is : IsPartOf (λ x. IsHeldBefore polygon edge (point_on x z)) span part) where
  pub next_edge : (next : LineSpan) → IsPartOf (λ x. pos 0 ≤ℤ side_of polygon edge (point_on x z)) part next
      → IsPartOf (λ x. IsHeldBefore polygon (edge + 1) (point_on x z)) span next
  next_edge next left =
      let begins = left.begins in
      let ends = left.ends in
      record {
        order = left.order;
        begins = omega (arith, begins, is.begins);
        ends = omega (arith, ends, is.ends);
        are = λ x in_next e below. here x in_next e below;
        all = λ x in_span held. left.all x (is.all x in_span (λ e below. held e (omega (arith, below)))) (held edge (omega arith));
      }
    where
      here : (x : ℕ) → IsInSpan next x → (e : ℕ) → e < edge + 1 → pos 0 ≤ℤ side_of polygon e (point_on x z)
      here x in_next e below =
          let first = in_next.first in
          let last = in_next.last in
          let begins = left.begins in
          let ends = left.ends in
          elim (cases_lt e edge) [
            | inl less ↦ is.are x (record { first = omega (arith, first, begins); last = omega (arith, last, ends) }) e less
            | inr least ↦
                subst (λ (n : ℕ). pos 0 ≤ℤ side_of polygon n (point_on x z)) (omega (arith, below, least)) (left.are x in_next)
          ]

  pub no_part : edge < length polygon.corners → IsPartWhere (λ x. pos 0 ≤ℤ side_of polygon edge (point_on x z)) part None
      → IsPartWhere (λ x. Holds polygon (point_on x z)) span None
  no_part there none = λ x in_span holds. none x (is.all x in_span (λ e below. holds e (omega (arith, below, there)))) (holds edge there)

  pub all_edges : edge ≡ length polygon.corners → IsPartOf (λ x. Holds polygon (point_on x z)) span part
  all_edges past = record {
    order = is.order;
    begins = is.begins;
    ends = is.ends;
    are = λ x in_part e there. is.are x in_part e (omega (arith, there, past));
    all = λ x in_span holds. is.all x in_span (λ e below. holds e (omega (arith, below, past)));
  }

pub no_edges : (polygon : Polygon) (z : ℕ) (span : LineSpan) → IsSpan span → IsPartOf (λ x. IsHeldBefore polygon 0 (point_on x z)) span span
no_edges polygon z span rules = record {
  order = rules.order;
  begins = omega arith;
  ends = omega arith;
  are = λ x in_span e below. absurd (omega (arith, below));
  all = λ x in_span held. in_span;
}
