-- What links weigh: no more than a tile's side across, at the greatest cost of an area; and the estimate falls by no more.
use Rattle.std.proofs.Common.{◌≡◌, ℕ, ◌<◌, ◌≤◌, ◌+◌, ◌-◌, ◌*◌, max, min, ℤ, pos, ◌+ℤ◌, ◌-ℤ◌, ◌*ℤ◌, ◌≤ℤ◌, length, add-mul, refl, subst, ap, ◌∙◌, arith}
use Rattle.std.specs.Prelude.{All, slice_index, Some, None, Option, unsigned_abs}
use Rattle.std.specs.Option.{option_map_or}
use Rattle.std.proofs.lemmas.Int.{ints}
use Rattle.std.proofs.lemmas.Nat.{mul-le}
use Rattle.std.proofs.lemmas.Bool.{and_parts, leb-true}
use Rattle.std.proofs.lemmas.List.Sums.{AllPass-from_list_all}
use Rattle.std.proofs.lemmas.Option.{slice_get_within, get_or_from_slice_get}
use Rattle.nav_base.specs.declared.point.Point.{Point}
use Rattle.nav_base.specs.Point.{IsInField, IsWithin, from_to}
use Rattle.nav_base.specs.Convex.{place_after}
use Rattle.nav_base.specs.Deviation.{square_of}
use Rattle.nav_base.specs.Root.{ceil_sqrt_of}
use Rattle.nav_base.proofs.RootLaws.{ceil_sqrt_of-at_most}
use Rattle.nav_base.proofs.Sizes.{dot_of-bound}
use Rattle.nav_base.proofs.LengthLaws.{ceil_sqrt_of-from_to}
use Rattle.nav_base.proofs.ConvexLaws.{place_after-in}
use Rattle.nav_ground.specs.declared.setting.Setting.{Setting}
use Rattle.nav_ground.specs.Limits.{IsSetting, IsArea, is_cost}
use Rattle.nav_ground.specs.Tiling.{corner_x, corner_z, tile_window}
use Rattle.mesh_types.specs.declared.links.PolyRef.{PolyRef}
use Rattle.mesh_types.specs.declared.links.Link.{Link}
use Rattle.mesh_types.specs.declared.polygon.Polygon.{Polygon}
use Rattle.mesh_types.specs.declared.mesh.Mesh.{Mesh}
use Rattle.mesh_types.specs.WholeMesh.{poly_at}
use Rattle.mesh_types.specs.Corridors.{centre_of, step_cost, weight_of}
use Rattle.mesh_types.specs.FitTiles.{IsPolygon, IsInSquare}
use Rattle.mesh_types.specs.Soundness.{IsSound}
use Rattle.mesh_types.specs.Portals.{LeadsThrough, edge_begin, edge_end}
use Rattle.corridor_search.specs.Estimates.{weight_from, estimate_from, CostsAtLeast}
use Rattle.corridor_search.proofs.Boxes.{low, high, low-corner, high-corner, low-bound, high-bound, IsOn, begin_on, end_on, on_above_x, on_below_x, on_above_z, on_below_z}
use Rattle.corridor_search.proofs.Sound.{placed, tile-fit, polygon-rules}

-- the costs of areas lie between 1 and 1000
pub area_cost : (setting : Setting) (area : ℕ) → IsSetting setting → IsArea area → (1 ≤ slice_index setting.costs area) × (slice_index setting.costs area ≤ 1000)
area_cost setting area rules is =
    let there : area < length setting.costs = omega (arith, is.most, rules.areas) in
    let test = AllPass-from_list_all is_cost setting.costs rules.costs area 0 there in
    let parts = and_parts _ _ test in
    (leb-true _ _ parts.0, leb-true _ _ parts.1)

-- the sides of the box of a polygon are at most 128 cells long
record IsSmall (polygon : Polygon) : Type 0 where
  pub some : 0 < length polygon.corners
  pub wide : high (λ p. p.x) polygon.corners ≤ℤ (low (λ p. p.x) polygon.corners +ℤ pos 128)
  pub deep : high (λ p. p.z) polygon.corners ≤ℤ (low (λ p. p.z) polygon.corners +ℤ pos 128)

small : (mesh : Mesh) (at : PolyRef) (polygon : Polygon) → IsSound mesh → IsSetting mesh.setting → poly_at mesh at ≡ Some polygon → IsSmall polygon
small mesh at polygon sound setting is =
    let held = placed mesh at polygon is in
    let square = subst (λ (p : Polygon). All (IsInSquare (tile_window mesh.setting held.tile.tile)) p.corners)
    (get_or_from_slice_get held.tile.polys at.index polygon polygon held.is)
    ((tile-fit mesh at.tile held.tile sound held.tile_is).square at.index polygon (slice_get_within held.tile.polys at.index polygon held.is)) in
    in_square held.tile.tile square
  where
    some' : 0 < length polygon.corners
    some' =
        let enough = (polygon-rules mesh at polygon sound is).convex.enough in
        omega (arith, enough)

    -- a window is no longer than a tile's side
    long : (start edge side : ℕ) (l h : ℤ) → side ≤ 128 → 1 ≤ side → pos start ≤ℤ l → h ≤ℤ (pos (min edge (start + side) - 1) +ℤ pos 1) → h ≤ℤ (l +ℤ pos 128)
    long start edge side l h most least above below = omega (arith, ints)

    in_square : (t : ℕ) → All (IsInSquare (tile_window mesh.setting t)) polygon.corners → IsSmall polygon
    in_square t square = record {
      some = some';
      wide = long (corner_x mesh.setting t) mesh.setting.width mesh.setting.tile _ _ setting.tile_most (omega (arith, setting.tile_least))
          (low-bound (λ p. p.x) polygon.corners _ some' (λ k d there. (square k d there).left))
          (high-bound (λ p. p.x) polygon.corners _ some' (λ k d there. (square k d there).right));
      deep = long (corner_z mesh.setting t) mesh.setting.depth mesh.setting.tile _ _ setting.tile_most (omega (arith, setting.tile_least))
          (low-bound (λ p. p.z) polygon.corners _ some' (λ k d there. (square k d there).bottom))
          (high-bound (λ p. p.z) polygon.corners _ some' (λ k d there. (square k d there).top));
    }

-- the middle of a polygon lies in the field
pub centre-in_field : (polygon : Polygon) → IsPolygon polygon → IsInField (centre_of polygon.corners)
centre-in_field polygon rules = record {
  left = above _ _ (low-bound (λ p. p.x) polygon.corners (pos 0) some (λ k d there. (rules.corners k d there).left)) (low-corner (λ p. p.x) polygon.corners 0 some) (high-corner (λ p. p.x) polygon.corners 0 some);
  right = below _ _ (high-bound (λ p. p.x) polygon.corners (pos 1024) some (λ k d there. (rules.corners k d there).right)) (low-corner (λ p. p.x) polygon.corners 0 some) (high-corner (λ p. p.x) polygon.corners 0 some);
  bottom = above _ _ (low-bound (λ p. p.z) polygon.corners (pos 0) some (λ k d there. (rules.corners k d there).bottom)) (low-corner (λ p. p.z) polygon.corners 0 some) (high-corner (λ p. p.z) polygon.corners 0 some);
  top = below _ _ (high-bound (λ p. p.z) polygon.corners (pos 1024) some (λ k d there. (rules.corners k d there).top)) (low-corner (λ p. p.z) polygon.corners 0 some) (high-corner (λ p. p.z) polygon.corners 0 some);
}
  where
    some : 0 < length polygon.corners
    some =
        let enough = rules.convex.enough in
        omega (arith, enough)

    above : (l h : ℤ) {c : ℤ} → pos 0 ≤ℤ l → l ≤ℤ c → c ≤ℤ h → pos 0 ≤ℤ (pos 8 *ℤ (l +ℤ h))
    above l h least first last = omega (arith, ints)

    below : (l h : ℤ) {c : ℤ} → h ≤ℤ pos 1024 → l ≤ℤ c → c ≤ℤ h → (pos 8 *ℤ (l +ℤ h)) ≤ℤ pos 16384
    below l h most first last = omega (arith, ints)

-- no goal is farther than the distance across the largest field
pub distance-most : (mesh : Mesh) (goal : Point) (at : PolyRef) → IsSound mesh → IsInField goal → estimate_from mesh goal at ≤ 23171
distance-most mesh goal at sound in_field = by_polygon (poly_at mesh at) refl
  where
    near : (a b : ℤ) → pos 0 ≤ℤ a → a ≤ℤ pos 16384 → pos 0 ≤ℤ b → b ≤ℤ pos 16384 → unsigned_abs (b -ℤ a) ≤ 16384
    near a b la ha lb hb = omega (arith, ints)

    by_polygon : (o : Option Polygon) → poly_at mesh at ≡ o → option_map_or (λ (p : Polygon). ceil_sqrt_of (square_of (from_to (centre_of p.corners) goal))) o 0 ≤ 23171
    by_polygon None is = omega arith
    by_polygon (Some polygon) is =
        let middle = centre-in_field polygon (polygon-rules mesh at polygon sound is) in
        let within : IsWithin 16384 (from_to (centre_of polygon.corners) goal) = record {
          across = near _ _ middle.left middle.right in_field.left in_field.right;
          along = near _ _ middle.bottom middle.top in_field.bottom in_field.top;
        } in
        let square = dot_of-bound 16384 (from_to (centre_of polygon.corners) goal) (from_to (centre_of polygon.corners) goal) within within in
        ceil_sqrt_of-at_most (square_of (from_to (centre_of polygon.corners) goal)) 23171 (omega (arith, square))

-- no estimate is greater than that at the greatest cost of an area
pub estimate-most : (mesh : Mesh) (goal : Point) (at : PolyRef) (least : ℕ) → IsSound mesh → IsSetting mesh.setting → IsInField goal → CostsAtLeast mesh least
    → estimate_from mesh goal at * least ≤ 23171000
estimate-most mesh goal at least sound setting in_field cost =
    let first : IsArea 1 = record { least = omega arith; most = omega arith } in
    let few : least ≤ 1000 = omega (arith, cost.each 1 first, (area_cost mesh.setting 1 setting first).1) in
    let whole = mul-le (estimate_from mesh goal at) least 23171 1000 (distance-most mesh goal at sound in_field) few in
    omega (arith, whole)

-- a point in the box of a polygon, in sixteenths
pub record IsInBox (polygon : Polygon) (p : Point) : Type 0 where
  pub left : (pos 16 *ℤ low (λ q. q.x) polygon.corners) ≤ℤ p.x
  pub right : p.x ≤ℤ (pos 16 *ℤ high (λ q. q.x) polygon.corners)
  pub bottom : (pos 16 *ℤ low (λ q. q.z) polygon.corners) ≤ℤ p.z
  pub top : p.z ≤ℤ (pos 16 *ℤ high (λ q. q.z) polygon.corners)

-- a point on an edge lies in the box
pub edge_in_box : (polygon : Polygon) (edge : ℕ) (p : Point) → edge < length polygon.corners → IsOn (edge_begin polygon edge) (edge_end polygon edge) p → IsInBox polygon p
edge_in_box polygon edge p there on = record {
  left = on_above_x _ _ p on _ (scaled_le _ _ (low-corner (λ q. q.x) polygon.corners edge there)) (scaled_le _ _ (low-corner (λ q. q.x) polygon.corners next next_there));
  right = on_below_x _ _ p on _ (scaled_le _ _ (high-corner (λ q. q.x) polygon.corners edge there)) (scaled_le _ _ (high-corner (λ q. q.x) polygon.corners next next_there));
  bottom = on_above_z _ _ p on _ (scaled_le _ _ (low-corner (λ q. q.z) polygon.corners edge there)) (scaled_le _ _ (low-corner (λ q. q.z) polygon.corners next next_there));
  top = on_below_z _ _ p on _ (scaled_le _ _ (high-corner (λ q. q.z) polygon.corners edge there)) (scaled_le _ _ (high-corner (λ q. q.z) polygon.corners next next_there));
}
  where
    next : ℕ
    next = place_after (length polygon.corners) edge

    next_there : next < length polygon.corners
    next_there = place_after-in (length polygon.corners) edge there

    scaled_le : (a b : ℤ) → a ≤ℤ b → (pos 16 *ℤ a) ≤ℤ (pos 16 *ℤ b)
    scaled_le a b h = omega (arith, ints)

-- the middles of two small polygons with a common point in their boxes are near each other
near_middles : (from to : Polygon) (p : Point) → IsSmall from → IsSmall to → IsInBox from p → IsInBox to p
    → IsWithin 2048 (from_to (centre_of from.corners) (centre_of to.corners))
near_middles from to p small_from small_to in_from in_to = record {
  across = near _ _ _ _ p.x small_from.wide small_to.wide in_from.left in_from.right in_to.left in_to.right;
  along = near _ _ _ _ p.z small_from.deep small_to.deep in_from.bottom in_from.top in_to.bottom in_to.top;
}
  where
    near : (l h l' h' q : ℤ) → h ≤ℤ (l +ℤ pos 128) → h' ≤ℤ (l' +ℤ pos 128) → (pos 16 *ℤ l) ≤ℤ q → q ≤ℤ (pos 16 *ℤ h) → (pos 16 *ℤ l') ≤ℤ q → q ≤ℤ (pos 16 *ℤ h')
        → unsigned_abs (pos 8 *ℤ (l' +ℤ h') -ℤ pos 8 *ℤ (l +ℤ h)) ≤ 2048
    near l h l' h' q wide wide' above below above' below' = omega (arith, ints)

-- what a link weighs, from its two polygons
pub weight-is : (mesh : Mesh) (link : Link) (from to : Polygon) → poly_at mesh link.from ≡ Some from → poly_at mesh link.to ≡ Some to
    → weight_of mesh link ≡ step_cost mesh.setting.costs from to
weight-is mesh link from to from_is to_is =
    ap (λ (o : Option Polygon). option_map_or (λ (f : Polygon). option_map_or (λ (t : Polygon). step_cost mesh.setting.costs f t) (poly_at mesh link.to) 0) o 0) from_is
    ∙ ap (λ (o : Option Polygon). option_map_or (λ (t : Polygon). step_cost mesh.setting.costs from t) o 0) to_is

-- the same from the middle of the polygon that it leaves
pub weight-by : (mesh : Mesh) (link : Link) (from : Polygon) → poly_at mesh link.from ≡ Some from → weight_of mesh link ≡ weight_from mesh (centre_of from.corners) link.to
weight-by mesh link from is =
    ap (λ (o : Option Polygon). option_map_or (λ (f : Polygon). option_map_or (λ (t : Polygon). step_cost mesh.setting.costs f t) (poly_at mesh link.to) 0) o 0) is

module _ (mesh : Mesh) (link : Link) (sound : IsSound mesh) (setting : IsSetting mesh.setting) (through : LeadsThrough (poly_at mesh link.from) (poly_at mesh link.to) link) where
  entered-area : IsArea through.enters.area
  entered-area = (polygon-rules mesh link.to through.enters sound through.is_entered).area

  -- no link weighs more
  pub weight-most : weight_of mesh link ≤ 2897000
  weight-most =
      let in_from = edge_in_box through.leaves link.edge link.portal.left through.out.there (end_on _ _ _ _ through.out.lies) in
      let in_to = edge_in_box through.enters through.into.edge link.portal.left through.into.there (begin_on _ _ _ _ through.into.lies) in
      let near = near_middles through.leaves through.enters link.portal.left (small mesh link.from through.leaves sound setting through.is_left)
      (small mesh link.to through.enters sound setting through.is_entered) in_from in_to in
      let square = dot_of-bound 2048 (from_to (centre_of through.leaves.corners) (centre_of through.enters.corners)) (from_to (centre_of through.leaves.corners) (centre_of through.enters.corners)) near near in
      let root = ceil_sqrt_of-at_most (square_of (from_to (centre_of through.leaves.corners) (centre_of through.enters.corners))) 2897 (omega (arith, square)) in
      let whole = mul-le (max 1 (ceil_sqrt_of (square_of (from_to (centre_of through.leaves.corners) (centre_of through.enters.corners))))) (slice_index mesh.setting.costs through.enters.area)
      2897 1000 (omega (arith, root)) (area_cost mesh.setting through.enters.area setting entered-area).1 in
      let same = weight-is mesh link through.leaves through.enters through.is_left through.is_entered in
      omega (arith, whole, same)

  -- the estimate falls along a link by no more than it weighs
  pub estimate-falls : (goal : Point) (least : ℕ) → CostsAtLeast mesh least
      → estimate_from mesh goal link.from * least ≤ weight_of mesh link + estimate_from mesh goal link.to * least
  estimate-falls goal least cost =
      let from = ap (λ (o : Option Polygon). option_map_or (λ (p : Polygon). ceil_sqrt_of (square_of (from_to (centre_of p.corners) goal))) o 0) through.is_left in
      let to = ap (λ (o : Option Polygon). option_map_or (λ (p : Polygon). ceil_sqrt_of (square_of (from_to (centre_of p.corners) goal))) o 0) through.is_entered in
      let length = ceil_sqrt_of (square_of (from_to (centre_of through.leaves.corners) (centre_of through.enters.corners))) in
      let way = ceil_sqrt_of-from_to (centre_of through.leaves.corners) (centre_of through.enters.corners) goal in
      let whole = mul-le length least (max 1 length) (slice_index mesh.setting.costs through.enters.area) (omega arith) (cost.each through.enters.area entered-area) in
      let same = weight-is mesh link through.leaves through.enters through.is_left through.is_entered in
      let near : estimate_from mesh goal link.from ≤ length + estimate_from mesh goal link.to = omega (arith, from, to, way) in
      scaled (estimate_from mesh goal link.from) length (estimate_from mesh goal link.to) (weight_of mesh link) near (omega (arith, whole, same))
    where
      scaled : (d e f w : ℕ) → d ≤ e + f → e * least ≤ w → d * least ≤ w + f * least
      scaled d e f w below covered =
          let times = mul-le d least (e + f) least below (omega arith) in
          let parts : (e + f) * least ≡ e * least + f * least = add-mul e f least in
          omega (arith, times, parts, covered)
