-- The nearest spot of the polygons that a search reached.
use Rattle.std.proofs.Common.{◌≡◌, ℕ, ◌+◌, ◌*◌, ◌<◌, ◌≤◌, ℤ, pos, negsuc, ◌+ℤ◌, ◌-ℤ◌, ◌≤ℤ◌, ◌⊎◌, inl, inr, false, List, refl, sym, ap, subst, ◌∙◌, arith}
use Rattle.std.specs.Prelude.{slice_get, Some, unsigned_abs}
use Rattle.std.proofs.lemmas.Bool.{cases_order, both_ways}
use Rattle.std.proofs.lemmas.Int.{ints}
use Rattle.std.proofs.lemmas.Nat.{mul-le}
use Rattle.std.proofs.lemmas.Option.{same_Some}
use Rattle.nav_base.specs.declared.point.Point.{Point}
use Rattle.nav_base.specs.Deviation.{square_of}
use Rattle.nav_base.specs.Point.{HasCoordinates, IsCoordinate, from_to}
use Rattle.mesh_types.specs.declared.extent.Extent.{Extent}
use Rattle.mesh_types.specs.declared.links.PolyRef.{PolyRef}
use Rattle.mesh_types.specs.declared.mesh.Mesh.{Mesh}
use Rattle.mesh_types.specs.declared.polygon.Polygon.{Polygon}
use Rattle.mesh_types.specs.Extents.{extent_of}
use Rattle.mesh_types.specs.FitTiles.{IsPolygon}
use Rattle.mesh_types.specs.Located.{Holds, height_gap}
use Rattle.mesh_types.specs.Portals.{edge_begin}
use Rattle.mesh_types.specs.Soundness.{IsSound}
use Rattle.mesh_types.specs.WholeMesh.{poly_at}
use Rattle.mesh_types.proofs.HeldPoints.{held_coordinates}
use Rattle.mesh_locate.specs.Nearest.{IsInBox}
use Rattle.mesh_locate.proofs.Reached.{held_in_box}
use Rattle.mesh_place.specs.Searches.{box_gap}
use Rattle.mesh_place.proofs.HeldLaws.{corner_held, no_nearer}
use Rattle.mesh_place.proofs.Squares.{box_least, square_parts}
use Rattle.graph_search.specs.declared.exploring.ReachedVertex.{ReachedVertex}
use Rattle.graph_search.proofs.ReachedLists.{get-one}
use Rattle.corridor_search.specs.Estimates.{extent_at}
use Rattle.corridor_search.specs.MeshGraphs.{polygon_of}
use Rattle.corridor_search.proofs.Extents.{extent-is}
use Rattle.corridor_search.proofs.Sound.{polygon-rules}
use Rattle.path_queries.specs.declared.spots.Spot.{Spot}
use Rattle.path_queries.specs.declared.spots.Toward.{Toward}
use Rattle.path_queries.specs.PartialWays.{IsNoWorse}
use Rattle.path_queries.specs.Searches.{is_kept}
use Rattle.path_queries.specs.Spots.{IsKeptAt, IsNearerSpot, IsNearestBefore, IsNoneBetter, IsSpotNear, near_of}

-- ---- squares of distances

size-most : (n : ℤ) (r : ℕ) → n ≤ℤ pos r → pos 0 ≤ℤ (n +ℤ pos r) → unsigned_abs n ≤ r
size-most (pos a) r high low = omega (arith, ints, high)
size-most (negsuc k) r high low = omega (arith, ints, low)

apart-most : (a b : ℤ) → IsCoordinate a → IsCoordinate b → unsigned_abs (b -ℤ a) ≤ 131072
apart-most a b first second =
    let low = first.low in
    let high = first.high in
    let low' = second.low in
    let high' = second.high in
    size-most (b -ℤ a) 131072 (omega (arith, ints, low, high')) (omega (arith, ints, high, low'))

pub square-most : (a b : Point) → HasCoordinates a → HasCoordinates b → square_of (from_to a b) ≤ 34359738368
square-most a b first second =
    let across = apart-most a.x b.x first.across second.across in
    let along = apart-most a.z b.z first.along second.along in
    omega (
      arith,
      square_parts (from_to a b),
      mul-le (unsigned_abs (b.x -ℤ a.x)) (unsigned_abs (b.x -ℤ a.x)) 131072 131072 across across,
      mul-le (unsigned_abs (b.z -ℤ a.z)) (unsigned_abs (b.z -ℤ a.z)) 131072 131072 along along,
    )

module _ (polygon : Polygon) (extent : Extent) (rules : IsPolygon polygon) (box : extent ≡ extent_of polygon) (p : Point) where
  -- no held point is nearer than the box
  pub box-nearer : (q : Point) → Holds polygon q → box_gap extent p ≤ square_of (from_to p q)
  box-nearer q holds = box_least extent p q (subst (λ (e : Extent). IsInBox e q) (sym box) (held_in_box polygon q rules holds))

  pub box-most : HasCoordinates p → box_gap extent p ≤ 34359738368
  box-most coordinates =
      let enough = rules.convex.enough in
      let held = corner_held polygon 0 rules.convex (omega (arith, enough)) in
      let least = box-nearer (edge_begin polygon 0) held in
      let most = square-most p (edge_begin polygon 0) coordinates (held_coordinates polygon (edge_begin polygon 0) rules held) in
      omega (arith, least, most)

-- ---- better and worse

pub no-worse-self : (near cost : ℕ) → IsNoWorse near cost near cost
no-worse-self near cost = inr (refl, omega arith)

pub no-worse-chain : (a c b d e f : ℕ) → IsNoWorse a c b d → IsNoWorse b d e f → IsNoWorse a c e f
no-worse-chain a c b d e f (inl less) (inl more) = inl (omega (arith, less, more))
no-worse-chain a c b d e f (inl less) (inr same) = inl (omega (arith, less, same.0))
no-worse-chain a c b d e f (inr same) (inl more) = inl (omega (arith, same.0, more))
no-worse-chain a c b d e f (inr same) (inr level) = inr (same.0 ∙ level.0, omega (arith, same.1, level.1))

module _ (mesh : Mesh) (toward : Toward) (list : List ReachedVertex) (sound : IsSound mesh) where
  -- where the box is farther than what was found, that stays
  pub spot-stays : (place : ℕ) (spot : Spot) → IsSpotNear mesh toward list spot → IsNoneBetter mesh toward list spot.near spot.cost place
      → IsNearerSpot mesh toward list place spot spot
  spot-stays place spot is none = record { spot = is; one_of = inl refl; kept = λ near cost worse. worse; none = none }

  pub box-farther : (place : ℕ) (spot : Spot) (entry : ReachedVertex) (polygon : Polygon) (extent : Extent) (in_box rise : ℕ) → slice_get list place ≡ Some entry
      → poly_at mesh (polygon_of entry.vertex) ≡ Some polygon → extent ≡ extent_at mesh (polygon_of entry.vertex)
      → rise ≡ toward.rise * height_gap polygon toward.y * (toward.rise * height_gap polygon toward.y) → in_box ≡ box_gap extent toward.goal + rise
      → spot.near < in_box → IsNoneBetter mesh toward list spot.near spot.cost place
  box-farther place spot entry polygon extent in_box rise is there box rises sum far entry' polygon' p is' there' holds =
      let same = get-one list entry entry' place is is' in
      let same' : polygon ≡ polygon' =
      same_Some polygon polygon' (sym there ∙ ap (λ (e : ReachedVertex). poly_at mesh (polygon_of e.vertex)) same ∙ there') in
      let rules = polygon-rules mesh (polygon_of entry.vertex) polygon sound there in
      let held = subst (λ (q : Polygon). Holds q p) (sym same') holds in
      let least = box-nearer polygon extent rules (box ∙ extent-is mesh (polygon_of entry.vertex) polygon there) toward.goal p held in
      inl (subst (λ (q : Polygon). spot.near < near_of toward q p) same' (omega (arith, far, sum, rises, least)))

  -- the point of a polygon nearest to the goal is no worse than any other
  pub spot-none : (spot : Spot) (is : IsSpotNear mesh toward list spot) → IsNoneBetter mesh toward list spot.near spot.cost spot.place
  spot-none spot is entry' polygon' p is' there' holds =
      let same = get-one list is.entry entry' spot.place is.there is' in
      let there : poly_at mesh (polygon_of entry'.vertex) ≡ Some is.polygon =
      ap (λ (e : ReachedVertex). poly_at mesh (polygon_of e.vertex)) (sym same) ∙ ap (poly_at mesh) (sym is.at) ∙ is.is in
      let same' : is.polygon ≡ polygon' = same_Some is.polygon polygon' (sym there ∙ there') in
      let held = subst (λ (q : Polygon). Holds q p) (sym same') holds in
      let least = no_nearer toward.goal p spot.end.point (is.nearest_held.first p held) in
      let cost : is.entry.cost ≡ entry'.cost = ap (λ (e : ReachedVertex). e.cost) same in
      subst (λ (q : Polygon). IsNoWorse spot.near spot.cost (near_of toward q p) entry'.cost) same'
      (by_order (near_of toward is.polygon p) entry'.cost (omega (arith, least, is.near_is)) (omega (arith, cost, is.cost_is)))
    where
      by_order : (near cost : ℕ) → spot.near ≤ near → spot.cost ≡ cost → IsNoWorse spot.near spot.cost near cost
      by_order near cost least same = elim (cases_order spot.near near) [
        | inl level ↦ inr (level, omega (arith, same))
        | inr (inl less) ↦ inl less
        | inr (inr more) ↦ absurd (omega (arith, least, more))
      ]

  none-worse : (near cost near' cost' place : ℕ) → IsNoWorse near cost near' cost' → IsNoneBetter mesh toward list near' cost' place
      → IsNoneBetter mesh toward list near cost place
  none-worse near cost near' cost' place worse none entry polygon p is there holds =
      no-worse-chain near cost near' cost' (near_of toward polygon p) entry.cost worse (none entry polygon p is there holds)

  -- the better of two
  pub spot-kept : (place : ℕ) (spot other : Spot) → IsSpotNear mesh toward list spot → IsSpotNear mesh toward list other → other.place ≡ place
      → IsNoWorse spot.near spot.cost other.near other.cost → IsNearerSpot mesh toward list place spot spot
  spot-kept place spot other is is' at worse =
      spot-stays place spot is
      (none-worse spot.near spot.cost other.near other.cost place worse (subst (IsNoneBetter mesh toward list other.near other.cost) at (spot-none other is')))

  pub spot-taken : (place : ℕ) (spot other : Spot) → IsSpotNear mesh toward list other → other.place ≡ place
      → IsNoWorse other.near other.cost spot.near spot.cost → IsNearerSpot mesh toward list place spot other
  spot-taken place spot other is at worse = record {
    spot = is;
    one_of = inr at;
    kept = λ near cost before. no-worse-chain other.near other.cost spot.near spot.cost near cost worse before;
    none = subst (IsNoneBetter mesh toward list other.near other.cost) at (spot-none other is);
  }

  -- ---- place after place

  module _ (areas : ℕ) (first : PolyRef) where
    pub none-before : (spot : Spot) → IsSpotNear mesh toward list spot → IsKeptAt mesh areas first list spot.place
        → IsNearestBefore mesh areas first toward list 0 spot
    none-before spot is kept = record { is = is; kept = kept; none = λ place before held. absurd (omega (arith, before)) }

    pub before-looked : (place : ℕ) (old new : Spot) → IsNearestBefore mesh areas first toward list place old → IsKeptAt mesh areas first list place
        → IsNearerSpot mesh toward list place old new → IsNearestBefore mesh areas first toward list (place + 1) new
    before-looked place old new is held nearer = record {
      is = nearer.spot;
      kept = elim nearer.one_of [
        | inl same ↦ subst (IsKeptAt mesh areas first list) (sym same) is.kept
        | inr same ↦ subst (IsKeptAt mesh areas first list) (sym same) held
      ];
      none = λ other before held'. at other before held' (cases_order other place);
    }
      where
        at : (other : ℕ) → other < place + 1 → IsKeptAt mesh areas first list other → (other ≡ place) ⊎ ((other < place) ⊎ (place < other))
            → IsNoneBetter mesh toward list new.near new.cost other
        at other before held' (inl same) = subst (IsNoneBetter mesh toward list new.near new.cost) (sym same) nearer.none
        at other before held' (inr (inl less)) =
            none-worse new.near new.cost old.near old.cost other (nearer.kept old.near old.cost (no-worse-self old.near old.cost)) (is.none other less held')
        at other before held' (inr (inr more)) = absurd (omega (arith, before, more))

    -- one from which no walk leads on is left out
    pub before-left : (place : ℕ) (spot : Spot) (entry : ReachedVertex) → slice_get list place ≡ Some entry → is_kept mesh areas first entry ≡ false
        → IsNearestBefore mesh areas first toward list place spot → IsNearestBefore mesh areas first toward list (place + 1) spot
    before-left place spot entry there off is = record {
      is = is.is;
      kept = is.kept;
      none = λ other before held. at other before held (cases_order other place);
    }
      where
        at : (other : ℕ) → other < place + 1 → IsKeptAt mesh areas first list other → (other ≡ place) ⊎ ((other < place) ⊎ (place < other))
            → IsNoneBetter mesh toward list spot.near spot.cost other
        at other before held (inl same) =
            let one = get-one list entry held.entry place there (ap (slice_get list) (sym same) ∙ held.there) in
            absurd (both_ways (is_kept mesh areas first entry) off (ap (is_kept mesh areas first) one ∙ held.leads))
        at other before held (inr (inl less)) = is.none other less held
        at other before held (inr (inr more)) = absurd (omega (arith, before, more))
