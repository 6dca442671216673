-- The walls of an edge: from the left end of one portal to the right end of the next one.
use Rattle.std.proofs.Common.{◌≡◌, ℕ, ◌⊎◌, inl, inr, ℤ, pos, ◌-ℤ◌, ◌*ℤ◌, ◌≤ℤ◌, ◌<ℤ◌, [], ◌∷◌, refl, sym, ap, subst, ◌∙◌, arith}
use Rattle.std.specs.Prelude.{Some}
use Rattle.std.proofs.lemmas.Int.{ints}
use Rattle.std.proofs.lemmas.Option.{same_Some}
use lib.IntN.{*ℤ-zero}
use Rattle.nav_base.specs.declared.point.Point.{Point}
use Rattle.nav_base.specs.Deviation.{square_of}
use Rattle.nav_base.specs.Point.{from_to, dot_of, cross_of, orient_of}
use Rattle.nav_base.proofs.LengthLaws.{dot_of-itself}
use Rattle.nav_base.proofs.OrientLaws.{orient_of-start, orient_of-end}
use Rattle.nav_base.proofs.Polynomials.{number, difference, product, equal}
use Rattle.nav_base.proofs.PointTerms.{Place, place, coordinates, from_to_term, dot_term, orient_term}
use Rattle.nav_base.proofs.Signs.{factor-not_negative, factor-not_positive}
use Rattle.mesh_types.specs.declared.links.Link.{Link}
use Rattle.mesh_types.specs.declared.links.PolyRef.{PolyRef}
use Rattle.mesh_types.specs.declared.links.Portal.{Portal}
use Rattle.mesh_types.specs.declared.mesh.Mesh.{Mesh}
use Rattle.mesh_types.specs.declared.polygon.Polygon.{Polygon}
use Rattle.mesh_types.specs.Portals.{LiesAlong, along, edge_begin, edge_end}
use Rattle.mesh_types.specs.Soundness.{IsSound}
use Rattle.mesh_types.specs.WholeMesh.{poly_at}
use Rattle.mesh_types.proofs.MeshLinks.{leads}
use Rattle.wall_query.specs.declared.parts.PolygonEdge.{PolygonEdge}
use Rattle.wall_query.specs.Parts.{IsEdgePart, IsFirst, LeadsOver, far_along}

-- ---- points of a way

-- a point of a way is determined by how far along it it is
same_x : (u v p q : Point) → dot_of (from_to u v) (from_to u v) *ℤ (p.x -ℤ q.x)
    ≡ (v.x -ℤ u.x) *ℤ (along u v p -ℤ along u v q) -ℤ (v.z -ℤ u.z) *ℤ (orient_of u v p -ℤ orient_of u v q)
unfolding dot_of cross_of orient_of
same_x u v p q =
    let way : Place = from_to_term (place 0) (place 1) in
    equal (coordinates (u ∷ v ∷ p ∷ q ∷ [])) (product (dot_term way way) (difference (place 2).x (place 3).x))
    (difference (product way.x (difference (dot_term way (from_to_term (place 0) (place 2))) (dot_term way (from_to_term (place 0) (place 3)))))
    (product way.z (difference (orient_term (place 0) (place 1) (place 2)) (orient_term (place 0) (place 1) (place 3))))) refl

same_z : (u v p q : Point) → dot_of (from_to u v) (from_to u v) *ℤ (p.z -ℤ q.z)
    ≡ (v.z -ℤ u.z) *ℤ (along u v p -ℤ along u v q) -ℤ (u.x -ℤ v.x) *ℤ (orient_of u v p -ℤ orient_of u v q)
unfolding dot_of cross_of orient_of
same_z u v p q =
    let way : Place = from_to_term (place 0) (place 1) in
    equal (coordinates (u ∷ v ∷ p ∷ q ∷ [])) (product (dot_term way way) (difference (place 2).z (place 3).z))
    (difference (product way.z (difference (dot_term way (from_to_term (place 0) (place 2))) (dot_term way (from_to_term (place 0) (place 3)))))
    (product (difference (place 0).x (place 1).x) (difference (orient_term (place 0) (place 1) (place 2)) (orient_term (place 0) (place 1) (place 3))))) refl

same_part : (n a b c d m k l o : ℤ) → n *ℤ (a -ℤ b) ≡ m *ℤ (c -ℤ d) -ℤ k *ℤ (l -ℤ o) → pos 0 <ℤ n → c ≡ d → l ≡ o → a ≡ b
same_part n a b c d m k l o is some same same' =
    equal_parts a b (factor-not_negative n (a -ℤ b) some (least (n *ℤ (a -ℤ b)) none)) (factor-not_positive n (a -ℤ b) some (most (n *ℤ (a -ℤ b)) none))
  where
    nothing : (m c d : ℤ) → c ≡ d → m *ℤ (c -ℤ d) ≡ pos 0
    nothing m c d e = (λ i. m *ℤ gone i) ∙ *ℤ-zero m
      where
        gone : c -ℤ d ≡ pos 0
        gone = omega (arith, ints, e)

    minus : (a b : ℤ) → a ≡ pos 0 → b ≡ pos 0 → a -ℤ b ≡ pos 0
    minus a b e f = omega (arith, ints)

    none : n *ℤ (a -ℤ b) ≡ pos 0
    none = is ∙ minus (m *ℤ (c -ℤ d)) (k *ℤ (l -ℤ o)) (nothing m c d same) (nothing k l o same')

    least : (a : ℤ) → a ≡ pos 0 → pos 0 ≤ℤ a
    least a e = omega (arith, ints)

    most : (a : ℤ) → a ≡ pos 0 → a ≤ℤ pos 0
    most a e = omega (arith, ints)

    equal_parts : (a b : ℤ) → pos 0 ≤ℤ (a -ℤ b) → (a -ℤ b) ≤ℤ pos 0 → a ≡ b
    equal_parts a b e f = omega (arith, ints)

pub same_point : (u v p q : Point) → pos 0 <ℤ along u v v → orient_of u v p ≡ pos 0 → orient_of u v q ≡ pos 0 → along u v p ≡ along u v q → p ≡ q
same_point u v p q long on on' same = λ i. record {
  x = same_part _ p.x q.x _ _ _ _ _ _ (same_x u v p q) long same (on ∙ sym on') i;
  z = same_part _ p.z q.z _ _ _ _ _ _ (same_z u v p q) long same (on ∙ sym on') i;
}

pub along_start : (u v : Point) → along u v u ≡ pos 0
unfolding dot_of
along_start u v =
    equal (coordinates (u ∷ v ∷ [])) (dot_term (from_to_term (place 0) (place 1)) (from_to_term (place 0) (place 0))) (number (pos 0)) refl

along_end : (u v : Point) → pos 0 ≤ℤ along u v v
along_end u v = least (along u v v) (square_of (from_to u v)) (dot_of-itself (from_to u v))
  where
    least : (a : ℤ) (n : ℕ) → a ≡ pos n → pos 0 ≤ℤ a
    least a n e = omega (arith, ints)

-- ---- comparisons

trans_lt : (a b c : ℤ) → a <ℤ b → b ≤ℤ c → a <ℤ c
trans_lt a b c h k = omega (arith, ints)

trans_le : (a b c : ℤ) → a ≤ℤ b → b <ℤ c → a <ℤ c
trans_le a b c h k = omega (arith, ints)

weaker : (a b : ℤ) → a <ℤ b → a ≤ℤ b
weaker a b h = omega (arith, ints)

irreflexive : (a b : ℤ) → a <ℤ b → b ≤ℤ a → ⊥
irreflexive a b h k = omega (arith, ints)

not_less : (a b : ℤ) → (a <ℤ b → ⊥) → b ≤ℤ a
not_less a b not = by (cases a b)
  where
    cases : (a b : ℤ) → (a <ℤ b) ⊎ (b ≤ℤ a)
    cases a b = grind (arith, ints)

    by : (a <ℤ b) ⊎ (b ≤ℤ a) → b ≤ℤ a
    by (inl less) = absurd (not less)
    by (inr most) = most

both : (a b : ℤ) → a ≤ℤ b → b ≤ℤ a → a ≡ b
both a b h k = omega (arith, ints)

-- an edge of a polygon, with its ends
abbrev pub whole_edge : PolyRef → Polygon → ℕ → PolygonEdge
whole_edge at polygon n = record { polygon = at; edge = n; begin = edge_begin polygon n; end = edge_end polygon n }

-- a point of an edge at which a wall may begin
pub record IsCursorOn (mesh : Mesh) (areas : ℕ) (at : PolyRef) (polygon : Polygon) (n : ℕ) (c : Point) : Type 0 where
  pub line : orient_of (edge_begin polygon n) (edge_end polygon n) c ≡ pos 0
  pub after : pos 0 ≤ℤ far_along polygon n c
  pub before : far_along polygon n c ≤ℤ far_along polygon n (edge_end polygon n)
  pub begins : (c ≡ edge_begin polygon n) ⊎ ((link : Link) × LeadsOver mesh areas at n link × (link.portal.left ≡ c))

module _ (mesh : Mesh) (areas : ℕ) (at : PolyRef) (polygon : Polygon) (n : ℕ) (sound : IsSound mesh) (there : poly_at mesh at ≡ Some polygon) where
  abbrev u : Point
  u = edge_begin polygon n

  abbrev v : Point
  v = edge_end polygon n

  abbrev t : Point → ℤ
  t p = far_along polygon n p

  abbrev Over : Link → Type 0
  Over link = LeadsOver mesh areas at n link

  abbrev Part : Point → Point → Type 0
  Part a b = IsEdgePart mesh areas at polygon n a b

  abbrev edge : PolygonEdge
  edge = whole_edge at polygon n

  -- the portal of an open link lies along the edge
  pub portal_lies : (link : Link) → Over link → LiesAlong u v link.portal.right link.portal.left
  portal_lies link over =
      let lead = leads mesh link sound over.listed in
      let same : lead.leaves ≡ polygon = same_Some lead.leaves polygon (sym lead.is_left ∙ ap (poly_at mesh) over.leaves ∙ there) in
      subst (λ (e : ℕ). LiesAlong (edge_begin polygon e) (edge_end polygon e) link.portal.right link.portal.left) over.over
      (subst (λ (p : Polygon). LiesAlong (edge_begin p link.edge) (edge_end p link.edge) link.portal.right link.portal.left) same lead.out.lies)

  abbrev IsCursor : Point → Type 0
  IsCursor c = IsCursorOn mesh areas at polygon n c

  pub at_start : IsCursor u
  at_start = record { line = orient_of-start u v; after = zero_least (t u) (along_start u v); before = first (t u) (t v) (along_start u v) (along_end u v); begins = inl refl }
    where
      zero_least : (a : ℤ) → a ≡ pos 0 → pos 0 ≤ℤ a
      zero_least a e = omega (arith, ints)

      first : (a b : ℤ) → a ≡ pos 0 → pos 0 ≤ℤ b → a ≤ℤ b
      first a b e h = omega (arith, ints)

  abbrev Beyond : Point → Link → Type 0
  Beyond c link = Over link × (t c <ℤ t link.portal.left)

  module _ (c : Point) (cursor : IsCursor c) where
    -- no wall that begins at or behind the cursor begins anywhere but there, if no portal whose left end lies beyond it ends before the wall does
    starts_here : (a b : Point) → Part a b → t c ≤ℤ t a → ((link : Link) → Beyond c link → t b ≤ℤ t link.portal.right) → t a ≡ t c
    starts_here a b part behind later = by part.begins
      where
        by : (a ≡ u) ⊎ ((link : Link) × Over link × (link.portal.left ≡ a)) → t a ≡ t c
        by (inl is) = first (t a) (t c) (ap t is ∙ along_start u v) behind cursor.after
          where
            first : (a c : ℤ) → a ≡ pos 0 → c ≤ℤ a → pos 0 ≤ℤ c → a ≡ c
            first a c e h k = omega (arith, ints)
        by (inr one) = both (t a) (t c) (not_less (t c) (t a) (λ less.
            let lies = portal_lies one.0 one.1 in
            let is : t one.0.portal.left ≡ t a = ap t one.2 in
            let beyond : t c <ℤ t one.0.portal.left = subst (λ (m : ℤ). t c <ℤ m) (sym is) less in
            irreflexive (t one.0.portal.right) (t one.0.portal.left) lies.forward
            (turn (t a) (t b) (t one.0.portal.left) (t one.0.portal.right) is part.lies.forward (later one.0 (one.1, beyond))))) behind
          where
            turn : (a b l r : ℤ) → l ≡ a → a <ℤ b → b ≤ℤ r → l ≤ℤ r
            turn a b l r e h k = omega (arith, ints)

    the_point : (a : Point) → orient_of u v a ≡ pos 0 → (b : Point) → t a <ℤ t b → t b ≤ℤ t v → t a ≡ t c → a ≡ c
    the_point a on b less most same = same_point u v a c (long (t c) (t a) (t b) (t v) cursor.after same less most) on cursor.line same
      where
        long : (c a b v : ℤ) → pos 0 ≤ℤ c → a ≡ c → a <ℤ b → b ≤ℤ v → pos 0 <ℤ v
        long c a b v h e k l = omega (arith, ints)

    module _ (portal : Portal) (is : IsFirst (Beyond c) edge portal) where
      first_lies : LiesAlong u v portal.right portal.left
      first_lies = subst (λ (p : Portal). LiesAlong u v p.right p.left) is.is (portal_lies is.link is.one.0)

      first_beyond : t c <ℤ t portal.left
      first_beyond = subst (λ (p : Portal). t c <ℤ t p.left) is.is is.one.1

      -- the cursor goes on to the left end of the first portal that ends beyond it
      pub gone_on : IsCursor portal.left
      gone_on = record {
        line = first_lies.ends;
        after = weaker (pos 0) (t portal.left) (trans_le (pos 0) (t c) (t portal.left) cursor.after first_beyond);
        before = first_lies.before;
        begins = inr (is.link, is.one.0, ap (λ (p : Portal). p.left) is.is);
      }

      pub goes_forward : t c <ℤ t portal.left
      goes_forward = first_beyond

      -- a wall lies before the portal
      pub part_before : t c <ℤ t portal.right → Part c portal.right
      part_before forward = record {
        lies = record {
          begins = cursor.line;
          ends = first_lies.begins;
          after = cursor.after;
          forward = forward;
          before = weaker (t portal.right) (t v) (trans_lt (t portal.right) (t portal.left) (t v) first_lies.forward first_lies.before);
        };
        closed = λ link over covers beyond. irreflexive (t link.portal.right) (t portal.right) covers (is.first link (over, beyond));
        begins = cursor.begins;
        ends = inr (is.link, is.one.0, ap (λ (p : Portal). p.right) is.is);
      }

      module _ (a b : Point) (part : Part a b) (behind : t c ≤ℤ t a) (ahead : t a <ℤ t portal.left) where
        ends_before : t b ≤ℤ t portal.right
        ends_before = not_less (t portal.right) (t b) (λ less.
            part.closed is.link is.one.0 (subst (λ (p : Portal). t p.right <ℤ t b) (sym is.is) less) (subst (λ (p : Portal). t a <ℤ t p.left) (sym is.is) ahead))

        starts : t a ≡ t c
        starts = starts_here a b part behind (λ link beyond. up (t b) (t portal.right) (t link.portal.right) ends_before (is.first link beyond))
          where
            up : (a b c : ℤ) → a ≤ℤ b → b ≤ℤ c → a ≤ℤ c
            up a b c h k = omega (arith, ints)

        stops : t b ≡ t portal.right
        stops = by part.ends
          where
            by : (b ≡ v) ⊎ ((link : Link) × Over link × (link.portal.right ≡ b)) → t b ≡ t portal.right
            by (inl last) = absurd (irreflexive (t portal.right) (t v) (trans_lt (t portal.right) (t portal.left) (t v) first_lies.forward first_lies.before)
                (subst (λ (p : Point). t p ≤ℤ t portal.right) last ends_before))
            by (inr one) =
                let lies = portal_lies one.0 one.1 in
                let same : t one.0.portal.right ≡ t b = ap t one.2 in
                both (t b) (t portal.right) ends_before
                (subst (λ (m : ℤ). t portal.right ≤ℤ m) same (is.first one.0 (one.1, far (t c) (t a) (t b) _ _ starts part.lies.forward same lies.forward)))
              where
                far : (c a b r l : ℤ) → a ≡ c → a <ℤ b → r ≡ b → r <ℤ l → c <ℤ l
                far c a b r l e h f k = omega (arith, ints)

        -- and it is the only one that begins from the cursor on and before the portal's left end
        pub starts_at : a ≡ c
        starts_at = the_point a part.lies.begins b part.lies.forward part.lies.before starts

        pub stops_at : b ≡ portal.right
        stops_at = same_point u v b portal.right (long (t a) (t b) (t v) part.lies.after part.lies.forward part.lies.before) part.lies.ends first_lies.begins stops
          where
            long : (a b v : ℤ) → pos 0 ≤ℤ a → a <ℤ b → b ≤ℤ v → pos 0 <ℤ v
            long a b v h k l = omega (arith, ints)

    -- no portal ends beyond the cursor: the last wall
    module _ (none : (link : Link) → Beyond c link → ⊥) where
      pub part_last : t c <ℤ t v → Part c v
      part_last forward = record {
        lies = record {
          begins = cursor.line;
          ends = line_end u v;
          after = cursor.after;
          forward = forward;
          before = self (t v);
        };
        closed = λ link over covers beyond. none link (over, beyond);
        begins = cursor.begins;
        ends = inl refl;
      }
        where
          self : (a : ℤ) → a ≤ℤ a
          self a = omega (arith, ints)

          line_end : (u v : Point) → orient_of u v v ≡ pos 0
          line_end u v = orient_of-end u v

      module _ (a b : Point) (part : Part a b) (behind : t c ≤ℤ t a) where
        starts_last : t a ≡ t c
        starts_last = starts_here a b part behind (λ link beyond. absurd (none link beyond))

        pub starts_at_last : a ≡ c
        starts_at_last = the_point a part.lies.begins b part.lies.forward part.lies.before starts_last

        pub stops_at_last : b ≡ v
        stops_at_last = by part.ends
          where
            by : (b ≡ v) ⊎ ((link : Link) × Over link × (link.portal.right ≡ b)) → b ≡ v
            by (inl last) = last
            by (inr one) =
                let lies = portal_lies one.0 one.1 in
                let same : t one.0.portal.right ≡ t b = ap t one.2 in
                absurd (none one.0 (one.1, far (t c) (t a) (t b) _ _ starts_last part.lies.forward same lies.forward))
              where
                far : (c a b r l : ℤ) → a ≡ c → a <ℤ b → r ≡ b → r <ℤ l → c <ℤ l
                far c a b r l e h f k = omega (arith, ints)
