-- The order of points by how far they are from one, and what a line leaves to be found.
use Rattle.std.proofs.Common.{◌≡◌, ℕ, ◌+◌, ◌<◌, ◌≤◌, ℤ, pos, ◌*ℤ◌, ◌≤ℤ◌, ◌⊎◌, inl, inr, true, false, [], ◌∷◌, length, refl, sym, ap, subst, ◌∙◌, arith}
use Rattle.std.specs.Prelude.{◌≢◌}
use Rattle.std.specs.Ordering.{is_lt, ordering_then, ordering_reverse}
use Rattle.std.specs.declared.cmp.Ordering.{Ordering}
use Rattle.std.specs.declared.cmp.Ordering.TheVariants.{Less, Equal, Greater}
use Rattle.std.proofs.lemmas.Bool.{true≢false, cases_lt}
use Rattle.std.specs.Cmp.{IsTotalOrder, nat_cmp_is}
use Rattle.std.proofs.lemmas.Cmp.{then_total, on_total, nat_cmp_total}
use Rattle.std.proofs.lemmas.Int.{ints}
use Rattle.std.proofs.lemmas.List.Elements.{All-cons, All-nil}
use Rattle.nav_base.specs.declared.point.Point.{Point}
use Rattle.nav_base.specs.Deviation.{square_of}
use Rattle.nav_base.specs.Point.{from_to}
use Rattle.nav_base.specs.Convex.{IsStrictlyConvex, corner_at, place_after}
use Rattle.nav_base.proofs.ConvexLaws.{IsStrictlyConvex-sides}
use Rattle.nav_base.proofs.Signs.{product-not_negative}
use Rattle.mesh_types.specs.declared.extent.Extent.{Extent}
use Rattle.mesh_types.specs.declared.polygon.Polygon.{Polygon}
use Rattle.mesh_types.specs.Extents.{extent_of}
use Rattle.mesh_types.specs.FitTiles.{IsPolygon}
use Rattle.mesh_types.specs.LinkOrder.{point_cmp}
use Rattle.mesh_types.specs.Located.{Holds}
use Rattle.mesh_types.specs.Portals.{edge_begin}
use Rattle.mesh_types.proofs.HeldPoints.{orient_of-scaled}
use Rattle.mesh_types.proofs.LinkOrderLaws.{point_total}
use Rattle.mesh_locate.specs.Nearest.{IsInBox}
use Rattle.mesh_locate.proofs.Reached.{IsCellBox, box_there, held_in_box}
use Rattle.mesh_place.specs.declared.lines.LineSpan.{LineSpan}
use Rattle.mesh_place.specs.HeldPoints.{IsNearerOver, IsNearestHeld, IsPlaceOf, ReachesAcross, near_cmp}
use Rattle.mesh_place.specs.Lines.{IsInSpan, IsItOrFarther, IsPartOf, point_on}
use Rattle.mesh_place.proofs.Squares.{farther_across}

module _ (p : Point) where
  abbrev far : Point → ℕ
  far a = square_of (from_to p a)

  near_total : IsTotalOrder (near_cmp p)
  near_total = then_total (on_total far nat_cmp_total) point_total

  never_itself : (a : Point) → near_cmp p a a ≢ Less
  never_itself a is =
      let turned : Less ≡ ordering_reverse Less = sym is ∙ near_total.antisymm a a ∙ ap ordering_reverse is in
      absurd (apart turned)
    where
      apart : Less ≡ Greater → ⊥
      apart e = absurd cc

  -- what is nearer comes before
  nearer_less : (a b : Point) → far a < far b → near_cmp p a b ≡ Less
  nearer_less a b less = ap (λ (o : Ordering). ordering_then o (point_cmp a b)) (sym (nat_cmp_is (far a) (far b) Less less))

  -- what does not come before is no nearer
  pub no_nearer : (a b : Point) → near_cmp p a b ≢ Less → far b ≤ far a
  no_nearer a b not = elim (cases_lt (far a) (far b)) [ inl less ↦ absurd (not (nearer_less a b less)) | inr least ↦ least ]

  is_less : (o : Ordering) → is_lt o ≡ true → o ≡ Less
  is_less Less is = refl
  is_less Equal is = absurd (true≢false (sym is))
  is_less Greater is = absurd (true≢false (sym is))

  not_less : (o : Ordering) → is_lt o ≡ false → o ≢ Less
  not_less o is less = true≢false (sym (ap is_lt less) ∙ is)

  -- what comes behind one that does not come before the best does not either
  behind : (a b best : Point) → near_cmp p a b ≡ Less → near_cmp p a best ≢ Less → near_cmp p b best ≢ Less
  behind a b best less not before = not (near_total.trans a b best less before)

  -- a point of a line is the one that is nearest across, or comes behind it
  it_or_behind : (q : Point) (near m z : ℕ) → q ≡ point_on m z → IsItOrFarther p.x near m → (q ≡ point_on near z) ⊎ (near_cmp p (point_on near z) q ≡ Less)
  it_or_behind q near m z at (inl same) = inl (at ∙ ap (λ (x : ℕ). point_on x z) same)
  it_or_behind q near m z at (inr less) =
      inr (nearer_less (point_on near z) q (subst (λ (b : Point). far (point_on near z) < far b) (sym at) (farther_across p (point_on near z) (point_on m z) less refl)))

  left_behind : (q near best : Point) → (q ≡ near) ⊎ (near_cmp p near q ≡ Less) → near_cmp p near best ≢ Less → near_cmp p q best ≢ Less
  left_behind q near best (inl same) not = subst (λ (a : Point). near_cmp p a best ≢ Less) (sym same) not
  left_behind q near best (inr less) not = behind near q best less not

  module _ (polygon : Polygon) (columns : LineSpan) (reach : ReachesAcross polygon columns) (z : ℕ) (best : Point) where
    -- a held point of the line
    record IsOnLine (q : Point) : Type 0 where
      m : ℕ
      at : q ≡ point_on m z
      inside : IsInSpan columns m

    on_line : (q : Point) (z' : ℕ) → Holds polygon q → q.z ≡ pos z' → z ≤ z' → z' < z + 1 → IsOnLine q
    on_line q z' holds on low high =
        let across = reach q holds in
        let x = across.is in
        let same : z' ≡ z = omega (arith, low, high) in
        let along : q.z ≡ pos z = on ∙ ap pos same in
        record { m = across.place; at = λ i. record { x = x i; z = along i }; inside = across.inside }

    -- what was found stays where the nearest point of the line does not come before it
    pub line_passed : (near : ℕ) (point : Point) → Holds polygon best → point ≡ point_on near z → ((x : ℕ) → IsInSpan columns x → IsItOrFarther p.x near x)
        → is_lt (near_cmp p point best) ≡ false → IsNearerOver polygon p z (z + 1) best best
    line_passed near point held made nearest not = record {
      holds = held;
      kept = λ q before. before;
      lines = λ q z' holds on low high.
          let one = on_line q z' holds on low high in
          left_behind q (point_on near z) best (it_or_behind q near one.m z one.at (nearest one.m one.inside))
          (subst (λ (a : Point). near_cmp p a best ≢ Less) made (not_less (near_cmp p point best) not));
    }

    -- and where the polygon holds none of the line
    pub line_empty : Holds polygon best → ((x : ℕ) → IsInSpan columns x → Holds polygon (point_on x z) → ⊥) → IsNearerOver polygon p z (z + 1) best best
    line_empty held none = record {
      holds = held;
      kept = λ q before. before;
      lines = λ q z' holds on low high.
          let one = on_line q z' holds on low high in
          absurd (none one.m one.inside (subst (Holds polygon) one.at holds));
    }

    module _ (part : LineSpan) (is : IsPartOf (λ x. Holds polygon (point_on x z)) columns part) (near : ℕ) (point : Point)
        (made : point ≡ point_on near z) (nearest : (x : ℕ) → IsInSpan part x → IsItOrFarther p.x near x) where
      it_or : (q : Point) (z' : ℕ) → Holds polygon q → q.z ≡ pos z' → z ≤ z' → z' < z + 1 → (q ≡ point) ⊎ (near_cmp p point q ≡ Less)
      it_or q z' holds on low high =
          let one = on_line q z' holds on low high in
          subst (λ (a : Point). (q ≡ a) ⊎ (near_cmp p a q ≡ Less)) (sym made)
          (it_or_behind q near one.m z one.at (nearest one.m (is.all one.m one.inside (subst (Holds polygon) one.at holds))))

      -- the nearest point of the part that the polygon holds
      pub line_held : Holds polygon best → is_lt (near_cmp p point best) ≡ false → IsNearerOver polygon p z (z + 1) best best
      line_held held not = record {
        holds = held;
        kept = λ q before. before;
        lines = λ q z' holds on low high. left_behind q point best (it_or q z' holds on low high) (not_less (near_cmp p point best) not);
      }

      pub line_nearer : IsInSpan part near → is_lt (near_cmp p point best) ≡ true → IsNearerOver polygon p z (z + 1) best point
      line_nearer inside less = record {
        holds = subst (Holds polygon) (sym made) (is.are near inside);
        kept = λ q before first. before (near_total.trans q point best first (is_less (near_cmp p point best) less));
        lines = λ q z' holds on low high. own q (it_or q z' holds on low high);
      }
        where
          own : (q : Point) → (q ≡ point) ⊎ (near_cmp p point q ≡ Less) → near_cmp p q point ≢ Less
          own q (inl same) = subst (λ (a : Point). near_cmp p a point ≢ Less) (sym same) (never_itself point)
          own q (inr after) = λ first. never_itself point (near_total.trans point q point after first)

  -- ---- line after line

  pub no_lines : (polygon : Polygon) (first end : ℕ) (best : Point) → Holds polygon best → end ≤ first → IsNearerOver polygon p first end best best
  no_lines polygon first end best held none = record {
    holds = held;
    kept = λ q before. before;
    lines = λ q z holds on low high. absurd (omega (arith, none, low, high));
  }

  -- lines and the one before them, or the one behind them, or some more behind them
  pub lines_and : (polygon : Polygon) (first end first' end' from to : ℕ) (old best new : Point) → IsNearerOver polygon p first end old best
      → IsNearerOver polygon p first' end' best new
      → ((z : ℕ) → from ≤ z → z < to → ((first ≤ z) × (z < end)) ⊎ ((first' ≤ z) × (z < end'))) → IsNearerOver polygon p from to old new
  lines_and polygon first end first' end' from to old best new is more all = record {
    holds = more.holds;
    kept = λ q before. more.kept q (is.kept q before);
    lines = λ q z holds on low high.
        elim (all z low high) [
          | inl one ↦ more.kept q (is.lines q z holds on one.0 one.1)
          | inr two ↦ more.lines q z holds on two.0 two.1
        ];
  }

-- ---- the whole polygon

-- each corner is held
pub corner_held : (polygon : Polygon) (k : ℕ) → IsStrictlyConvex polygon.corners → k < length polygon.corners → Holds polygon (edge_begin polygon k)
corner_held polygon k convex there edge there' =
    let n = length polygon.corners in
    subst (λ (m : ℤ). pos 0 ≤ℤ m)
    (sym (orient_of-scaled (corner_at polygon.corners edge) (corner_at polygon.corners (place_after n edge)) (corner_at polygon.corners k)))
    (product-not_negative (pos 256) _ (omega (arith, ints)) (IsStrictlyConvex-sides polygon.corners convex edge there' k there))

module _ (polygon : Polygon) (extent : Extent) (rules : IsPolygon polygon) (box : extent ≡ extent_of polygon) where
  some-corner : 0 < length polygon.corners
  some-corner =
      let enough = rules.convex.enough in
      omega (arith, enough)

  pub cell_box : IsCellBox extent
  cell_box = box_there (polygon ∷ []) 0 extent (λ d. box) (All-cons IsPolygon polygon [] rules (All-nil IsPolygon)) (omega arith)

  -- the first corner lies in the box
  first_corner : IsInBox extent (edge_begin polygon 0)
  first_corner =
      subst (λ (e : Extent). IsInBox e (edge_begin polygon 0)) (sym box) (held_in_box polygon (edge_begin polygon 0) rules (corner_held polygon 0 rules.convex some-corner))

  in_order : (a b n : ℤ) → (pos 16 *ℤ a) ≤ℤ n → n ≤ℤ (pos 16 *ℤ b) → a ≤ℤ b
  in_order a b n low high = omega (arith, ints, low, high)

  pub across_order : extent.low.x ≤ℤ extent.high.x
  across_order = in_order _ _ _ first_corner.low.across first_corner.high.across

  pub along_order : extent.low.z ≤ℤ extent.high.z
  along_order = in_order _ _ _ first_corner.low.along first_corner.high.along

  pub across_box : (span : LineSpan) → ((n : ℤ) → (pos 16 *ℤ extent.low.x) ≤ℤ n → n ≤ℤ (pos 16 *ℤ extent.high.x) → IsPlaceOf span n)
      → ReachesAcross polygon span
  across_box span places q holds =
      let inside = subst (λ (e : Extent). IsInBox e q) (sym box) (held_in_box polygon q rules holds) in
      places q.x inside.low.across inside.high.across

  pub along_box : (span : LineSpan) → ((n : ℤ) → (pos 16 *ℤ extent.low.z) ≤ℤ n → n ≤ℤ (pos 16 *ℤ extent.high.z) → IsPlaceOf span n)
      → (q : Point) → Holds polygon q → IsPlaceOf span q.z
  along_box span places q holds =
      let inside = subst (λ (e : Extent). IsInBox e q) (sym box) (held_in_box polygon q rules holds) in
      places q.z inside.low.along inside.high.along

-- what is found on all lines is the nearest
pub nearest_of_lines : (polygon : Polygon) (p : Point) (lines : LineSpan) (old new : Point) → ((q : Point) → Holds polygon q → IsPlaceOf lines q.z)
    → IsNearerOver polygon p lines.first (lines.last + 1) old new → IsNearestHeld polygon p new
nearest_of_lines polygon p lines old new reach is = record {
  holds = is.holds;
  first = λ q holds.
      let on = reach q holds in
      let low = on.inside.first in
      let high = on.inside.last in
      is.lines q on.place holds on.is low (omega (arith, high));
}
