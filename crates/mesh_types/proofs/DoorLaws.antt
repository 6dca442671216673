-- Doors are edges of polygons, and their links lead through them.
use Rattle.std.proofs.Common.{◌≡◌, ◌≢◌, ℕ, zero, suc, ◌<◌, ℤ, pos, ◌≤ℤ◌, ◌<ℤ◌, ◌*ℤ◌, Bool, true, false, ◌+ℤ◌, ◌-ℤ◌, List, [], ◌∷◌, length, get_or, map, ap, ◌∙◌, refl, sym, subst, arith, Option, Some, None, inl, inr}
use Rattle.std.specs.Prelude.{All, slice_get, slice_index, unsigned_abs, ◌==◌, ◌&&◌, ◌||◌}
use Rattle.std.specs.List.{filter_map, find, range_with_len}
use Rattle.std.specs.Option.{option_map}
use Rattle.std.specs.Ordering.{int_eq}
use Rattle.std.proofs.lemmas.Bool.{and_from, and_parts, both_ways, cases_Bool, eqb-true}
use Rattle.std.proofs.lemmas.Bool.Decides.{Decides-int_eq}
use Rattle.std.proofs.lemmas.Int.{ints}
use Rattle.std.proofs.lemmas.List.{get_or-map, length-map}
use Rattle.std.proofs.lemmas.List.Elements.{All-map}
use Rattle.std.proofs.lemmas.List.FromFn.{get_or-range_with_len, length-range_with_len}
use Rattle.std.proofs.lemmas.Option.{slice_get-get_or}
use Rattle.nav_base.specs.declared.point.Point.{Point}
use Rattle.nav_base.specs.Point.{dot_of}
use Rattle.nav_base.specs.Convex.{IsStrictlyConvex, corner_at, place_after}
use Rattle.nav_base.proofs.ConvexLaws.{IsStrictlyConvex-apart, place_after-apart, place_after-in}
use Rattle.nav_base.proofs.LengthLaws.{square-absolute}
use Rattle.nav_base.proofs.OrientLaws.{orient_of-start, orient_of-end}
use Rattle.nav_base.proofs.PointTerms.{coordinates, dot_term, from_to_term, place}
use Rattle.nav_base.proofs.Polynomials.{equal, number}
use Rattle.nav_base.proofs.Signs.{product-positive, square-not_negative}
use Rattle.nav_ground.specs.declared.cell.Cell.{Cell}
use Rattle.nav_ground.specs.declared.cell.Window.{Window}
use Rattle.nav_ground.proofs.Found.{found_in}
use Rattle.mesh_types.specs.declared.region.Regions.{Regions}
use Rattle.mesh_types.specs.declared.region.PortalEdge.{PortalEdge}
use Rattle.mesh_types.specs.declared.region.RegionPart.{RegionPart}
use Rattle.mesh_types.specs.declared.region.Outline as outlines
use Rattle.mesh_types.specs.declared.links.Link.{Link}
use Rattle.mesh_types.specs.declared.polygon.Polygon.{Polygon}
use Rattle.mesh_types.specs.declared.mesh.TileMesh.{TileMesh}
use Rattle.mesh_types.specs.BorderLinks.{scaled}
use Rattle.mesh_types.specs.FitTiles.{IsInnerLink}
use Rattle.mesh_types.specs.Portals.{LeadsThrough, LiesAlong, along}
use Rattle.mesh_types.specs.Ears.{is_same_point}
use Rattle.mesh_types.specs.Merging.{edge_end}
use Rattle.mesh_types.specs.Facets.{Facet, facet_polygon}
use Rattle.mesh_types.specs.Doors.{are_facing, door_link, door_links, door_over, doors_of, facet_doors, link_through, names_region, share_corners, share_places}
use Rattle.mesh_types.proofs.Words.{no_facet}
use Rattle.mesh_types.specs.Words.{no_part}
use Rattle.mesh_types.proofs.ContourLaws.{found_all, same_point}
use Rattle.mesh_types.proofs.FacetLaws.{IsFacetOf}
use Rattle.mesh_types.proofs.Gathered.{gathered_all}
use Rattle.mesh_types.proofs.LinksInOrder.{All-ordered_links}
use Rattle.mesh_types.proofs.RunLaws.{All-found}

-- ---- what doors are

-- the facet with a number, and the corners of its polygon
abbrev pub facet_at : List Facet → ℕ → Facet
facet_at facets k = get_or facets k no_facet

abbrev pub facet_corners : Facet → List Point
facet_corners facet = map (corner_at facet.outline.corners) facet.places

-- a door is an edge of the polygon that it names, and joins places of the outline of its region
pub record IsDoorOf (parts : List RegionPart) (facets : List Facet) (door : PortalEdge) : Type 0 where
  pub there : door.polygon < length facets
  pub edge : door.edge < length (facet_corners (facet_at facets door.polygon))
  pub begins : corner_at (facet_corners (facet_at facets door.polygon)) door.edge ≡ door.begin
  pub ends : corner_at (facet_corners (facet_at facets door.polygon)) (place_after (length (facet_corners (facet_at facets door.polygon))) door.edge) ≡ door.end
  pub begin : door.begin ≡ corner_at (get_or parts door.region no_part).outline.corners door.from
  pub end : door.end ≡ corner_at (get_or parts door.region no_part).outline.corners door.to

door_is : (window : Window) (parts : List RegionPart) (facets : List Facet) (polygon edge : ℕ) → All (IsFacetOf window parts) facets → polygon < length facets
    → edge < length (facet_at facets polygon).places → IsDoorOf parts facets (door_over polygon (facet_at facets polygon) edge)
door_is window parts facets polygon edge each there inside =
    let facet : Facet = facet_at facets polygon in
    let is : IsFacetOf window parts facet = each polygon no_facet there in
    let at : ℕ → Point = corner_at facet.outline.corners in
    let many : length (facet_corners facet) ≡ length facet.places = length-map facet.places at in
    record {
      there = there;
      edge = omega (arith, inside, many);
      begins = get_or-map at facet.places edge 0 (record { x = pos 0; z = pos 0 }) inside;
      ends = ap (λ n. corner_at (facet_corners facet) (place_after n edge)) many
          ∙ get_or-map at facet.places (place_after (length facet.places) edge) 0 (record { x = pos 0; z = pos 0 }) (place_after-in (length facet.places) edge inside);
      begin = ap (λ (outline : outlines.Outline). corner_at outline.corners (slice_index facet.places edge)) is.outline;
      end = ap (λ (outline : outlines.Outline). corner_at outline.corners (edge_end facet.places edge)) is.outline;
    }

pub doors_are : (window : Window) (parts : List RegionPart) (facets : List Facet) → All (IsFacetOf window parts) facets → All (IsDoorOf parts facets) (doors_of facets)
unfolding doors_of
doors_are window parts facets each =
    gathered_all (IsDoorOf parts facets) (λ polygon. facet_doors polygon (facet_at facets polygon)) 0 (length facets)
    (λ polygon least most.
    let facet : Facet = facet_at facets polygon in
    let count = length-range_with_len 0 (length facet.places) in
    All-map (IsDoorOf parts facets) (door_over polygon facet) (range_with_len 0 (length facet.places))
    (λ k d there.
    let there' : k < length facet.places = omega (arith, there, count) in
    door_is window parts facets polygon (get_or (range_with_len 0 (length facet.places)) k d) each (omega (arith, most))
    (omega (arith, get_or-range_with_len 0 (length facet.places) k d there', there'))))

-- ---- a whole edge as a portal

scaled_apart : (p q : Point) → p ≢ q → scaled p.x p.z ≢ scaled q.x q.z
scaled_apart p q apart same =
    let x : p.x ≡ q.x = sixteenth p.x q.x (ap (λ (r : Point). r.x) same) in
    let z : p.z ≡ q.z = sixteenth p.z q.z (ap (λ (r : Point). r.z) same) in
    apart (ap (λ k. record { x = k; z = p.z }) x ∙ ap (λ k. record { x = q.x; z = k }) z)
  where
    sixteenth : (a b : ℤ) → pos 16 *ℤ a ≡ pos 16 *ℤ b → a ≡ b
    sixteenth a b h = omega (arith, ints)

-- the square of a length between two points is positive
square_positive : (n : ℤ) → n ≢ pos 0 → pos 0 <ℤ (n *ℤ n)
square_positive n some =
    let size : pos 0 <ℤ pos (unsigned_abs n) = absolute_positive n some in
    subst (λ m. pos 0 <ℤ m) (sym (square-absolute n)) (product-positive (pos (unsigned_abs n)) (pos (unsigned_abs n)) size size)
  where
    absolute_positive : (m : ℤ) → m ≢ pos 0 → pos 0 <ℤ pos (unsigned_abs m)
    absolute_positive m other = positive (unsigned_abs m) (λ e. other (none m e))
      where
        none : (k : ℤ) → unsigned_abs k ≡ 0 → k ≡ pos 0
        none k e = omega (arith, ints)

        positive : (k : ℕ) → (k ≡ 0 → ⊥) → pos 0 <ℤ pos k
        positive zero h = absurd (h refl)
        positive (suc k) h = omega (arith, ints)

apart_positive : (a b : ℤ) → int_eq a b ≡ false → pos 0 <ℤ ((b -ℤ a) *ℤ (b -ℤ a))
apart_positive a b differ = square_positive (b -ℤ a) (λ e. both_ways (int_eq a b) differ ((Decides-int_eq a b).1 (no_difference a b e)))
  where
    no_difference : (c d : ℤ) → d -ℤ c ≡ pos 0 → c ≡ d
    no_difference c d e = omega (arith, ints)

some_way : (u v : Point) → u ≢ v → pos 0 <ℤ along u v v
unfolding dot_of
some_way u v apart =
    elim (cases_Bool (int_eq u.x v.x)) [
      | inr x ↦ first ((v.x -ℤ u.x) *ℤ (v.x -ℤ u.x)) ((v.z -ℤ u.z) *ℤ (v.z -ℤ u.z)) (apart_positive u.x v.x x) (square-not_negative (v.z -ℤ u.z))
      | inl x ↦ elim (cases_Bool (int_eq u.z v.z)) [
        | inr z ↦ second ((v.x -ℤ u.x) *ℤ (v.x -ℤ u.x)) ((v.z -ℤ u.z) *ℤ (v.z -ℤ u.z)) (square-not_negative (v.x -ℤ u.x)) (apart_positive u.z v.z z)
        | inl z ↦ absurd (apart (same_point u v (and_from (int_eq u.x v.x) (int_eq u.z v.z) x z)))
      ]
    ]
  where
    first : (a b : ℤ) → pos 0 <ℤ a → pos 0 ≤ℤ b → pos 0 <ℤ (a +ℤ b)
    first a b h k = omega (arith, ints)

    second : (a b : ℤ) → pos 0 ≤ℤ a → pos 0 <ℤ b → pos 0 <ℤ (a +ℤ b)
    second a b h k = omega (arith, ints)

nowhere : (u v : Point) → along u v u ≡ pos 0
unfolding dot_of
nowhere u v =
    equal (coordinates (u ∷ v ∷ [])) (dot_term (from_to_term (place 0) (place 1)) (from_to_term (place 0) (place 0))) (number (pos 0)) refl

whole_way : (u v : Point) → u ≢ v → LiesAlong u v u v
whole_way u v apart = record {
  begins = orient_of-start u v;
  ends = orient_of-end u v;
  after = at_least (along u v u) (nowhere u v);
  forward = less (along u v u) (along u v v) (nowhere u v) (some_way u v apart);
  before = same (along u v v);
}
  where
    at_least : (a : ℤ) → a ≡ pos 0 → pos 0 ≤ℤ a
    at_least a h = omega (arith, ints)

    less : (a b : ℤ) → a ≡ pos 0 → pos 0 <ℤ b → a <ℤ b
    less a b h k = omega (arith, ints)

    same : (a : ℤ) → a ≤ℤ a
    same a = omega (arith, ints)

-- ---- facing doors

pub facing_points : (parts : List RegionPart) (facets : List Facet) (a b : PortalEdge) → IsDoorOf parts facets a → IsDoorOf parts facets b → are_facing a b ≡ true
    → (a.begin ≡ b.end) × (a.end ≡ b.begin)
facing_points parts facets a b is is' facing =
    elim (cases_Bool (share_places a b)) [
      | inl places ↦
          let outer = and_parts (a.region == b.region && a.from == b.to) (a.to == b.from) places in
          let inner = and_parts (a.region == b.region) (a.from == b.to) outer.0 in
          let region : a.region ≡ b.region = eqb-true a.region b.region inner.0 in
          let corners : ℕ → List Point = λ r. (get_or parts r no_part).outline.corners in (
            is.begin ∙ ap (λ r. corner_at (corners r) a.from) region ∙ ap (corner_at (corners b.region)) (eqb-true a.from b.to inner.1) ∙ sym is'.end,
            is.end ∙ ap (λ r. corner_at (corners r) a.to) region ∙ ap (corner_at (corners b.region)) (eqb-true a.to b.from outer.1) ∙ sym is'.begin,
          )
      | inr not ↦
          let corners : share_corners a b ≡ true = other (share_places a b) (share_corners a b) not facing in
          let ends = and_parts (names_region a.code b.region && names_region b.code a.region && is_same_point a.begin b.end) (is_same_point a.end b.begin) corners in
          let begins = and_parts (names_region a.code b.region && names_region b.code a.region) (is_same_point a.begin b.end) ends.0 in
          (same_point a.begin b.end begins.1, same_point a.end b.begin ends.1)
    ]
  where
    other : (p q : Bool) → p ≡ false → (p || q) ≡ true → q ≡ true
    other p q neither either = cc

-- ---- links

module _ (cells : List Cell) (regions : Regions) (window : Window) (parts : List RegionPart) (facets : List Facet)
    (each : All (IsFacetOf window parts) facets) (doors : List PortalEdge) (are : All (IsDoorOf parts facets) doors) where
  -- the polygon of a door
  pub polygon_there : (k : ℕ) → k < length facets
      → slice_get (map (facet_polygon cells regions) facets) k ≡ Some (facet_polygon cells regions (facet_at facets k))
  polygon_there k there =
      slice_get-get_or (map (facet_polygon cells regions) facets) k (facet_polygon cells regions no_facet)
      (omega (arith, there, length-map facets (facet_polygon cells regions)))
      ∙ ap (λ (p : Polygon). Some p) (get_or-map (facet_polygon cells regions) facets k no_facet (facet_polygon cells regions no_facet) there)

  -- a door's two corners differ
  door_apart : (door : PortalEdge) → IsDoorOf parts facets door → door.begin ≢ door.end
  door_apart door is same =
      let facet : Facet = facet_at facets door.polygon in
      let corners : List Point = facet_corners facet in
      let convex : IsStrictlyConvex corners = (each door.polygon no_facet is.there).piece.convex in
      IsStrictlyConvex-apart corners convex door.edge (place_after (length corners) door.edge) is.edge
      (place_after-in (length corners) door.edge is.edge)
      (λ e. place_after-apart (length corners) door.edge (omega (arith, convex.enough)) (sym e))
      (is.begins ∙ same ∙ sym is.ends)

  leads : (tile : ℕ) (a b : PortalEdge) → IsDoorOf parts facets a → IsDoorOf parts facets b → are_facing a b ≡ true
      → LeadsThrough (slice_get (map (facet_polygon cells regions) facets) a.polygon) (slice_get (map (facet_polygon cells regions) facets) b.polygon)
      (door_link tile a b)
  leads tile a b is is' facing =
      let points = facing_points parts facets a b is is' facing in
      let S : Point → Point = λ p. scaled p.x p.z in
      let way : Point → Point → Type 0 = λ u v. LiesAlong (S u) (S v) (S a.begin) (S a.end) in
      let back : Point → Point → Type 0 = λ u v. LiesAlong (S u) (S v) (S a.end) (S a.begin) in
      record {
        leaves = facet_polygon cells regions (facet_at facets a.polygon);
        is_left = polygon_there a.polygon is.there;
        out = record {
          there = is.edge;
          lies = subst (λ u. way u (corner_at (facet_corners (facet_at facets a.polygon)) (place_after (length (facet_corners (facet_at facets a.polygon))) a.edge))) (sym is.begins)
              (subst (way a.begin) (sym is.ends) (whole_way (S a.begin) (S a.end) (scaled_apart a.begin a.end (door_apart a is))));
        };
        enters = facet_polygon cells regions (facet_at facets b.polygon);
        is_entered = polygon_there b.polygon is'.there;
        into = record {
          edge = b.edge;
          there = is'.edge;
          lies = subst (λ u. back u (corner_at (facet_corners (facet_at facets b.polygon)) (place_after (length (facet_corners (facet_at facets b.polygon))) b.edge))) (sym is'.begins)
              (subst (back b.begin) (sym is'.ends) (subst (λ u. back u b.end) points.1 (subst (back a.end) points.0
              (whole_way (S a.end) (S a.begin) (scaled_apart a.end a.begin (λ e. door_apart a is (sym e)))))));
        };
      }

  -- all links lead through their portals
  pub links_lead : (tile : TileMesh) → tile.polys ≡ map (facet_polygon cells regions) facets → All (IsInnerLink tile) (door_links tile.tile doors)
  links_lead tile polys =
      All-ordered_links (IsInnerLink tile) (filter_map (link_through tile.tile doors) doors)
      (All-found (link_through tile.tile doors) (IsInnerLink tile) doors
      (λ k d there link is. through (get_or doors k d) (are k d there) (find (are_facing (get_or doors k d)) doors) refl link is))
    where
      through : (a : PortalEdge) → IsDoorOf parts facets a → (o : Option PortalEdge) → find (are_facing a) doors ≡ o → (link : Link)
          → option_map (door_link tile.tile a) o ≡ Some link → IsInnerLink tile link
      through a is None found link same = absurd cc
      through a is (Some b) found link same =
          let at : door_link tile.tile a b ≡ link = cc in
          let two = found_all (are_facing a) (IsDoorOf parts facets) doors b are found in
          let facing : are_facing a b ≡ true = (found_in (are_facing a) doors b found).passes in
          subst (IsInnerLink tile) at (record {
            from_here = refl;
            to_here = refl;
            through = subst (λ (ps : List Polygon). LeadsThrough (slice_get ps a.polygon) (slice_get ps b.polygon) (door_link tile.tile a b)) (sym polys) (leads tile.tile a b is two facing);
          })
