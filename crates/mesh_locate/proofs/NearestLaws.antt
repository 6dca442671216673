-- One more polygon, one more tile: what was found stays the nearest.
use Rattle.std.proofs.Common.{◌≡◌, ℕ, ◌+◌, ◌≤◌, ◌<◌, true, false, refl, sym, ap, subst, ◌∙◌, inl, inr, arith}
use Rattle.std.specs.Prelude.{Option, Some, None}
use Rattle.std.proofs.lemmas.Bool.{cases_lt, ltb-true, ltb-false, true≢false}
use Rattle.std.proofs.lemmas.Option.{same_Some}
use Rattle.nav_base.specs.declared.point.Point.{Point}
use Rattle.mesh_types.specs.declared.links.PolyRef.{PolyRef}
use Rattle.mesh_types.specs.declared.polygon.Polygon.{Polygon}
use Rattle.mesh_types.specs.declared.mesh.Mesh.{Mesh}
use Rattle.mesh_types.specs.Located.{Holds, HoldsAt, IsLocated, IsNoLater, height_gap}
use Rattle.mesh_types.specs.Right.{IsNowhere}
use Rattle.mesh_types.specs.WholeMesh.{poly_at}
use Rattle.mesh_locate.specs.declared.nearest.NearestPolygon.{NearestPolygon}
use Rattle.mesh_locate.specs.Nearest.{IsBefore, IsNearest, IsNearestBefore, is_nearer}

-- what comes before the next place comes before this one, or stands there
before_next : {P : Type 0} (at other : PolyRef) → IsBefore at.tile (at.index + 1) other → (IsBefore at.tile at.index other → P) → (other ≡ at → P) → P
before_next at other (inl earlier) before here = before (inl earlier)
before_next at other (inr same) before here =
    elim (cases_lt other.index at.index) [
      | inl less ↦ before (inr (same.0, less))
      | inr least ↦
          let e : other.index ≡ at.index = omega (arith, same.1, least) in
          here (λ i. record { tile = same.0 i; index = e i })
    ]

later_next : (at other : PolyRef) → IsBefore at.tile at.index other → IsBefore at.tile (at.index + 1) other
later_next at other (inl earlier) = inl earlier
later_next at other (inr same) = inr (same.0, omega (arith, same.1))

-- a reference names one polygon
one_polygon : (mesh : Mesh) (p : Point) (y : ℕ) (at other : PolyRef) (polygon : Polygon) → other ≡ at → poly_at mesh at ≡ Some polygon
    → (held : HoldsAt mesh p y other) → held.polygon ≡ polygon
one_polygon mesh p y at other polygon here there held = same_Some held.polygon polygon (sym held.there ∙ ap (poly_at mesh) here ∙ there)

-- a polygon holds no point at a height that is too far outside its floors, and none outside its edges
pub too_far : (mesh : Mesh) (p : Point) (y : ℕ) (at : PolyRef) (polygon : Polygon) (gap : ℕ) → poly_at mesh at ≡ Some polygon → gap ≡ height_gap polygon y
    → mesh.setting.agent.climb < gap → HoldsAt mesh p y at → ⊥
too_far mesh p y at polygon gap there is beyond held =
    let same = one_polygon mesh p y at at polygon refl there held in
    omega (arith, held.near, beyond, is, ap (λ (d : Polygon). height_gap d y) same)

pub outside : (mesh : Mesh) (p : Point) (y : ℕ) (at : PolyRef) (polygon : Polygon) → poly_at mesh at ≡ Some polygon → (Holds polygon p → ⊥)
    → HoldsAt mesh p y at → ⊥
outside mesh p y at polygon there never held =
    never (subst (λ (d : Polygon). Holds d p) (one_polygon mesh p y at at polygon refl there held) held.holds)

-- a polygon that does not hold the point changes nothing
pub passed_over : (mesh : Mesh) (p : Point) (y : ℕ) (at : PolyRef) (best : Option NearestPolygon) → (HoldsAt mesh p y at → ⊥)
    → IsNearestBefore mesh p y at.tile at.index best → IsNearestBefore mesh p y at.tile (at.index + 1) best
passed_over mesh p y at None never found =
    λ other before held. before_next at other before (λ earlier. found other earlier held) (λ here. never (subst (HoldsAt mesh p y) here held))
passed_over mesh p y at (Some near) never found = record {
  holding = found.holding;
  gap = found.gap;
  before = later_next at near.at found.before;
  least = λ other before held. before_next at other before (λ earlier. found.least other earlier held)
      (λ here. absurd (never (subst (HoldsAt mesh p y) here held)));
}

-- nor does one that is no nearer than what was found
no_later : (tile index : ℕ) (a b : PolyRef) (m n : ℕ) → b.tile ≡ tile → b.index ≡ index → IsBefore tile index a → m ≤ n → IsNoLater m a n b
no_later tile index a b m n at at' (inl earlier) least =
    elim (cases_lt m n) [ inl less ↦ inl less | inr same ↦ inr (omega (arith, same, least), inl (omega (arith, earlier, at))) ]
no_later tile index a b m n at at' (inr there) least =
    elim (cases_lt m n) [ inl less ↦ inl less | inr same ↦ inr (omega (arith, same, least), inr (there.0 ∙ sym at, omega (arith, there.1, at'))) ]

pub left_alone : (mesh : Mesh) (p : Point) (y : ℕ) (at : PolyRef) (polygon : Polygon) (gap : ℕ) (best : Option NearestPolygon) → poly_at mesh at ≡ Some polygon
    → gap ≡ height_gap polygon y → is_nearer gap best ≡ false → IsNearestBefore mesh p y at.tile at.index best
    → IsNearestBefore mesh p y at.tile (at.index + 1) best
left_alone mesh p y at polygon gap None there is least found = absurd (true≢false least)
left_alone mesh p y at polygon gap (Some near) there is least found =
    let no_nearer : near.gap ≤ gap = ltb-false gap near.gap least in
    record {
      holding = found.holding;
      gap = found.gap;
      before = later_next at near.at found.before;
      least = λ other before held. before_next at other before (λ earlier. found.least other earlier held)
          (λ here.
          let same : held.polygon ≡ polygon = one_polygon mesh p y at other polygon here there held in
          no_later at.tile at.index near.at other near.gap (height_gap held.polygon y) (ap (λ (r : PolyRef). r.tile) here) (ap (λ (r : PolyRef). r.index) here) found.before
          (subst (λ (n : ℕ). near.gap ≤ n) (is ∙ ap (λ (d : Polygon). height_gap d y) (sym same)) no_nearer));
    }

-- a nearer one that holds the point takes the place
pub taken : (mesh : Mesh) (p : Point) (y : ℕ) (at : PolyRef) (polygon : Polygon) (gap : ℕ) (best : Option NearestPolygon) → poly_at mesh at ≡ Some polygon
    → gap ≡ height_gap polygon y → gap ≤ mesh.setting.agent.climb → Holds polygon p → is_nearer gap best ≡ true
    → IsNearestBefore mesh p y at.tile at.index best → IsNearest mesh p y at.tile (at.index + 1) (record { gap = gap; at = at })
taken mesh p y at polygon gap best there is near holds nearer found = record {
  holding = record { polygon = polygon; there = there; holds = holds; near = subst (λ (n : ℕ). n ≤ mesh.setting.agent.climb) is near };
  gap = is;
  before = inr (refl, omega arith);
  least = λ other before held. before_next at other before (λ earlier. farther best nearer found other earlier held)
      (λ here.
      let same : held.polygon ≡ polygon = one_polygon mesh p y at other polygon here there held in
      let level : gap ≡ height_gap held.polygon y = is ∙ ap (λ (d : Polygon). height_gap d y) (sym same) in
      inr (level, inr (ap (λ (r : PolyRef). r.tile) (sym here), omega (arith, ap (λ (r : PolyRef). r.index) (sym here)))));
}
  where
    beyond : (m n : ℕ) (a b : PolyRef) → gap < m → IsNoLater m a n b → gap < n
    beyond m n a b less (inl more) = omega (arith, less, more)
    beyond m n a b less (inr same) = omega (arith, less, same.0)

    farther : (best : Option NearestPolygon) → is_nearer gap best ≡ true → IsNearestBefore mesh p y at.tile at.index best
        → (other : PolyRef) → IsBefore at.tile at.index other → (held : HoldsAt mesh p y other) → IsNoLater gap at (height_gap held.polygon y) other
    farther None less found other earlier held = absurd (found other earlier held)
    farther (Some near) less found other earlier held =
        inl (beyond near.gap (height_gap held.polygon y) near.at other (ltb-true gap near.gap less) (found.least other earlier held))

-- ---- from tile to tile

-- what was found does not change where no polygon that holds the point stands between two places
pub moved_on : (mesh : Mesh) (p : Point) (y tile index tile' index' : ℕ) (best : Option NearestPolygon)
    → ((other : PolyRef) → IsBefore tile index other → IsBefore tile' index' other)
    → ((other : PolyRef) → IsBefore tile' index' other → HoldsAt mesh p y other → IsBefore tile index other)
    → IsNearestBefore mesh p y tile index best → IsNearestBefore mesh p y tile' index' best
moved_on mesh p y tile index tile' index' None on back found = λ other before held. found other (back other before held) held
moved_on mesh p y tile index tile' index' (Some near) on back found = record {
  holding = found.holding;
  gap = found.gap;
  before = on near.at found.before;
  least = λ other before held. found.least other (back other before held) held;
}

-- nothing comes before the first place
pub nothing_yet : (mesh : Mesh) (p : Point) (y : ℕ) → IsNearestBefore mesh p y 0 0 None
nothing_yet mesh p y other (inl before) held = absurd (omega (arith, before))
nothing_yet mesh p y other (inr before) held = absurd (omega (arith, before.1))

-- what was found before the place after the last tile is the polygon that locates the point
pub located : (mesh : Mesh) (p : Point) (y tile : ℕ) (near : NearestPolygon) → ((other : PolyRef) → HoldsAt mesh p y other → other.tile < tile)
    → IsNearest mesh p y tile 0 near → IsLocated mesh p y near.at
located mesh p y tile near all found = record {
  holding = found.holding;
  first = λ other held.
      subst (λ (n : ℕ). IsNoLater n near.at (height_gap held.polygon y) other) found.gap (found.least other (inl (all other held)) held);
}

pub nowhere : (mesh : Mesh) (p : Point) (y tile : ℕ) → ((other : PolyRef) → HoldsAt mesh p y other → other.tile < tile)
    → IsNearestBefore mesh p y tile 0 None → IsNowhere mesh p y
nowhere mesh p y tile all found other held = found other (inl (all other held)) held
