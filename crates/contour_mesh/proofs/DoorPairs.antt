-- A door of a tile faces at most one other. So every two doors that face each other are linked, and each link has its reverse.
use Rattle.std.proofs.Common.{◌≡◌, ℕ, ◌<◌, ◌≤◌, pos, Bool, true, false, List, length, get_or, refl, sym, ap, subst, ◌∙◌, arith, inl, inr, Option, Some, None}
use Rattle.std.specs.Prelude.{All, AllPairs, Contains, slice_get, slice_index, ◌==◌, ◌&&◌, if◌then◌else◌}
use Rattle.std.specs.List.{count_by, filter_map, find, range_with_len}
use Rattle.std.specs.Option.{option_map}
use Rattle.std.proofs.lemmas.Bool.{and_from, and_parts, cases_order, eq-eqb, eqb-true, or_cases, or_left, or_right}
use Rattle.std.proofs.lemmas.List.{get_or_default}
use Rattle.std.proofs.lemmas.List.Elements.{All-map, Contains-get_or}
use Rattle.std.proofs.lemmas.List.FromFn.{get_or-range_with_len, length-range_with_len}
use Rattle.nav_base.specs.declared.point.Point.{Point}
use Rattle.nav_base.specs.Convex.{corner_at, place_after}
use Rattle.nav_base.proofs.ConvexLaws.{place_after-in}
use Rattle.nav_ground.specs.declared.cell.Window.{Window}
use Rattle.nav_ground.proofs.Found.{first_found, found_in}
use Rattle.mesh_types.specs.declared.region.Code.{Code}
use Rattle.mesh_types.specs.declared.region.Code.TheVariants.{Region, Side, Wall}
use Rattle.mesh_types.specs.declared.region.PortalEdge.{PortalEdge}
use Rattle.mesh_types.specs.declared.region.RegionPart.{RegionPart}
use Rattle.mesh_types.specs.declared.links.Link.{Link}
use Rattle.mesh_types.specs.declared.region.Outline as outlines
use Rattle.mesh_types.specs.BorderLinks.{scaled}
use Rattle.mesh_types.specs.Rings.{AreApart}
use Rattle.mesh_types.specs.Ears.{is_same_point}
use Rattle.mesh_types.specs.Edges.{edges_between}
use Rattle.mesh_types.specs.Merging.{edge_end}
use Rattle.mesh_types.specs.Passages.{AreTwoWay, HasReverse, reverse_of}
use Rattle.mesh_types.specs.Facets.{Facet, facets_of}
use Rattle.mesh_types.specs.Doors.{are_facing, code_between, door_link, door_links, door_over, doors_of, facet_doors, link_through, names_region, share_corners, share_places}
use Rattle.mesh_types.proofs.Words.{no_facet}
use Rattle.mesh_types.specs.Words.{no_part}
use Rattle.mesh_types.proofs.ContourLaws.{is_same_point-from, same_point}
use Rattle.mesh_types.proofs.Counted.{once_apart, some_counted}
use Rattle.mesh_types.proofs.DoorLaws.{IsDoorOf, facet_at, facing_points}
use Rattle.mesh_types.proofs.FacetLaws.{IsFacetOf}
use Rattle.mesh_types.proofs.Gathered.{gathered_all}
use Rattle.mesh_types.proofs.LinksInOrder.{All-ordered_links, Contains-ordered_links}
use Rattle.mesh_types.proofs.RunLaws.{All-found}
use Rattle.poly_merge.proofs.Listed.{contains_found}
use Rattle.contour_mesh.proofs.SoundParts.{IsSoundPart}
use Rattle.contour_mesh.proofs.DoorCounts.{doors_over, is_over}

-- ---- the places of doors

-- a door joins two places of the outline of its region, and has the code between them
pub record IsDoorIn (parts : List RegionPart) (door : PortalEdge) : Type 0 where
  pub region : door.region < length parts
  pub from : door.from < length (get_or parts door.region no_part).outline.corners
  pub to : door.to < length (get_or parts door.region no_part).outline.corners
  pub code : door.code ≡ code_between (get_or parts door.region no_part).outline door.from door.to

doors_in : (window : Window) (parts : List RegionPart) (facets : List Facet) → All (IsFacetOf window parts) facets → All (IsDoorIn parts) (doors_of facets)
unfolding doors_of
doors_in window parts facets each =
    gathered_all (IsDoorIn parts) (λ polygon. facet_doors polygon (facet_at facets polygon)) 0 (length facets)
    (λ polygon least most.
    let facet : Facet = facet_at facets polygon in
    let is : IsFacetOf window parts facet = each polygon no_facet (omega (arith, most)) in
    let count = length-range_with_len 0 (length facet.places) in
    All-map (IsDoorIn parts) (door_over polygon facet) (range_with_len 0 (length facet.places))
    (λ k d there.
    let there' : k < length facet.places = omega (arith, there, count) in
    let edge : ℕ = get_or (range_with_len 0 (length facet.places)) k d in
    let inside : edge < length facet.places = omega (arith, get_or-range_with_len 0 (length facet.places) k d there', there') in
    let size : length facet.outline.corners ≡ length (get_or parts facet.region no_part).outline.corners = ap (λ (outline : outlines.Outline). length outline.corners) is.outline in
    record {
      region = is.region;
      from = omega (arith, size, is.piece.places edge 0 inside);
      to = omega (arith, size, is.piece.places (place_after (length facet.places) edge) 0 (place_after-in (length facet.places) edge inside));
      code = ap (λ (outline : outlines.Outline). code_between outline (slice_index facet.places edge) (edge_end facet.places edge)) is.outline;
    }))

-- different corners of an outline have different places
one_place : (corners : List Point) → AllPairs AreApart corners → (i j : ℕ) → i < length corners → j < length corners → corner_at corners i ≡ corner_at corners j → i ≡ j
one_place corners apart i j there there' same =
    elim (cases_order i j) [
      | inl equal ↦ equal
      | inr (inl less) ↦ absurd (apart i j (record { x = pos 0; z = pos 0 }) less there' same)
      | inr (inr more) ↦ absurd (apart j i (record { x = pos 0; z = pos 0 }) more there (sym same))
    ]

-- ---- codes and points

names_is : (code : Option Code) (id : ℕ) → names_region code id ≡ true → code ≡ Some (Region id)
names_is (Some (Region r)) id is = ap (λ n. Some (Region n)) (eqb-true r id is)
names_is (Some (Side side)) id is = absurd cc
names_is (Some Wall) id is = absurd cc
names_is None id is = absurd cc

named_once : (code : Option Code) (r s : ℕ) → code ≡ Some (Region r) → code ≡ Some (Region s) → r ≡ s
named_once code r s is is' = let same : Some (Region r) ≡ Some (Region s) = sym is ∙ is' in cc

-- the code between two places is that of the edge from the one to the next
pub coded_next : (outline : outlines.Outline) (from to : ℕ) (code : Code) → code_between outline from to ≡ Some code → to ≡ place_after (length outline.corners) from
coded_next outline from to code is = by_test (to == place_after (length outline.corners) from) refl is
  where
    by_test : (b : Bool) → (to == place_after (length outline.corners) from) ≡ b → (if b then slice_get outline.codes from else None) ≡ Some code
        → to ≡ place_after (length outline.corners) from
    by_test true e same = eqb-true to (place_after (length outline.corners) from) e
    by_test false e same = absurd cc

-- what two doors that share places, or corners, have in common
record SharePlaces (a b : PortalEdge) : Type 0 where
  pub region : a.region ≡ b.region
  pub from : a.from ≡ b.to
  pub to : a.to ≡ b.from

share_places-is : (a b : PortalEdge) → share_places a b ≡ true → SharePlaces a b
share_places-is a b is =
    let outer = and_parts (a.region == b.region && a.from == b.to) (a.to == b.from) is in
    let inner = and_parts (a.region == b.region) (a.from == b.to) outer.0 in
    record { region = eqb-true a.region b.region inner.0; from = eqb-true a.from b.to inner.1; to = eqb-true a.to b.from outer.1 }

record ShareCorners (a b : PortalEdge) : Type 0 where
  pub code : a.code ≡ Some (Region b.region)
  pub back : b.code ≡ Some (Region a.region)
  pub begin : a.begin ≡ b.end
  pub end : a.end ≡ b.begin

share_corners-is : (a b : PortalEdge) → share_corners a b ≡ true → ShareCorners a b
share_corners-is a b is =
    let ends = and_parts (names_region a.code b.region && names_region b.code a.region && is_same_point a.begin b.end) (is_same_point a.end b.begin) is in
    let begins = and_parts (names_region a.code b.region && names_region b.code a.region) (is_same_point a.begin b.end) ends.0 in
    let names = and_parts (names_region a.code b.region) (names_region b.code a.region) begins.0 in
    record {
      code = names_is a.code b.region names.0;
      back = names_is b.code a.region names.1;
      begin = same_point a.begin b.end begins.1;
      end = same_point a.end b.begin ends.1;
    }

named : (code : Option Code) (id : ℕ) → code ≡ Some (Region id) → names_region code id ≡ true
named code id is = ap (λ (c : Option Code). names_region c id) is ∙ eq-eqb id id refl

pub facing_back : (a b : PortalEdge) → are_facing a b ≡ true → are_facing b a ≡ true
facing_back a b facing =
    elim (or_cases (share_places a b) (share_corners a b) facing) [
      | inl places ↦
          let is = share_places-is a b places in
          or_left (share_places b a) (share_corners b a)
          (and_from (b.region == a.region && b.from == a.to) (b.to == a.from)
          (and_from (b.region == a.region) (b.from == a.to) (eq-eqb b.region a.region (sym is.region)) (eq-eqb b.from a.to (sym is.to))) (eq-eqb b.to a.from (sym is.from)))
      | inr corners ↦
          let is = share_corners-is a b corners in
          or_right (share_places b a) (share_corners b a)
          (and_from (names_region b.code a.region && names_region a.code b.region && is_same_point b.begin a.end) (is_same_point b.end a.begin)
          (and_from (names_region b.code a.region && names_region a.code b.region) (is_same_point b.begin a.end)
          (and_from (names_region b.code a.region) (names_region a.code b.region) (named b.code a.region is.back) (named a.code b.region is.code))
          (is_same_point-from b.begin a.end (sym is.end))) (is_same_point-from b.end a.begin (sym is.begin)))
    ]

-- ---- a door faces one other at most

module _ (window : Window) (parts : List RegionPart) (sound : All IsSoundPart parts) (each : All (IsFacetOf window parts) (facets_of parts))
    (are : All (IsDoorOf parts (facets_of parts)) (doors_of (facets_of parts))) where
  abbrev doors : List PortalEdge
  doors = doors_of (facets_of parts)

  of_part : (r : ℕ) → r < length parts → IsSoundPart (get_or parts r no_part)
  of_part r there = sound r no_part there

  pub is_in : (door : PortalEdge) → Contains doors door → IsDoorIn parts door
  is_in door has = subst (IsDoorIn parts) has.2 (doors_in window parts (facets_of parts) each has.0 door has.1)

  pub is_of : (door : PortalEdge) → Contains doors door → IsDoorOf parts (facets_of parts) door
  is_of door has = subst (IsDoorOf parts (facets_of parts)) has.2 (are has.0 door has.1)

  -- doors of one region from one place to another are one door
  one_door : (b c : PortalEdge) → Contains doors b → Contains doors c → b.region ≡ c.region → b.from ≡ c.from → b.to ≡ c.to → b ≡ c
  one_door b c has has' region from to =
      elim (cases_order has.0 has'.0) [
        | inl same ↦ sym has.2 ∙ ap (λ k. get_or doors k b) same ∙ at_c
        | inr (inl less) ↦ absurd (once_apart test doors has.0 has'.0 b most less has'.1 passes_b passes_c)
        | inr (inr more) ↦ absurd (once_apart test doors has'.0 has.0 b most more has.1 passes_c passes_b)
      ]
    where
      test : PortalEdge → Bool
      test = is_over b.region b.from b.to

      at_c : get_or doors has'.0 b ≡ c
      at_c = get_or_default doors has'.0 b c has'.1 ∙ has'.2

      over : (door : PortalEdge) → door.region ≡ b.region → door.from ≡ b.from → door.to ≡ b.to → test door ≡ true
      over door r f t =
          and_from (door.region == b.region) (door.from == b.from && door.to == b.to) (eq-eqb door.region b.region r)
          (and_from (door.from == b.from) (door.to == b.to) (eq-eqb door.from b.from f) (eq-eqb door.to b.to t))

      passes_b : test (get_or doors has.0 b) ≡ true
      passes_b = ap test has.2 ∙ over b refl refl refl

      passes_c : test (get_or doors has'.0 b) ≡ true
      passes_c = ap test at_c ∙ over c (sym region) (sym from) (sym to)

      most : count_by test doors ≤ 1
      most = doors_over parts b.region b.from b.to 1 ((of_part b.region (is_in b has).region).once b.from b.to)

  -- no door leads back along an edge of an outline
  none_back : (a b : PortalEdge) (code : Code) → Contains doors a → Contains doors b → a.code ≡ Some code → SharePlaces a b → ⊥
  none_back a b code has has' coded shared =
      let is = is_in a has in
      let outline : outlines.Outline = (get_or parts a.region no_part).outline in
      let next : a.to ≡ place_after (length outline.corners) a.from = coded_next outline a.from a.to code (sym is.code ∙ coded) in
      let none : edges_between a.to a.from (get_or parts a.region no_part).pieces ≡ 0 =
      ap (λ n. edges_between n a.from (get_or parts a.region no_part).pieces) next ∙ (of_part a.region is.region).outline.back a.from is.from in
      let test : PortalEdge → Bool = is_over a.region a.to a.from in
      let passes : test b ≡ true =
      and_from (b.region == a.region) (b.from == a.to && b.to == a.from) (eq-eqb b.region a.region (sym shared.region))
      (and_from (b.from == a.to) (b.to == a.from) (eq-eqb b.from a.to (sym shared.to)) (eq-eqb b.to a.from (sym shared.from))) in
      omega (
        arith,
        doors_over parts a.region a.to a.from 0 (omega (arith, none)),
        some_counted test doors has'.0 b has'.1 (ap test has'.2 ∙ passes),
      )

  -- doors of one region between the same points
  pub between_points : (b c : PortalEdge) → Contains doors b → Contains doors c → b.region ≡ c.region → b.begin ≡ c.begin → b.end ≡ c.end → b ≡ c
  between_points b c has has' region begin end =
      let corners : ℕ → List Point = λ r. (get_or parts r no_part).outline.corners in
      let is = is_in b has in
      let is' = is_in c has' in
      let of = is_of b has in
      let of' = is_of c has' in
      let apart : AllPairs AreApart (corners b.region) = (of_part b.region is.region).apart in
      let size : length (corners c.region) ≡ length (corners b.region) = ap (λ r. length (corners r)) (sym region) in
      one_door b c has has' region
      (one_place (corners b.region) apart b.from c.from is.from (omega (arith, size, is'.from))
      (sym of.begin ∙ begin ∙ of'.begin ∙ ap (λ r. corner_at (corners r) c.from) (sym region)))
      (one_place (corners b.region) apart b.to c.to is.to (omega (arith, size, is'.to)) (sym of.end ∙ end ∙ of'.end ∙ ap (λ r. corner_at (corners r) c.to) (sym region)))

  pub faces_one : (a b c : PortalEdge) → Contains doors a → Contains doors b → Contains doors c → are_facing a b ≡ true → are_facing a c ≡ true → b ≡ c
  faces_one a b c has has_b has_c faces_b faces_c =
      elim (or_cases (share_places a b) (share_corners a b) faces_b) [
        | inl places_b ↦
            let of_b = share_places-is a b places_b in
            elim (or_cases (share_places a c) (share_corners a c) faces_c) [
              | inl places_c ↦
                  let of_c = share_places-is a c places_c in
                  one_door b c has_b has_c (sym of_b.region ∙ of_c.region) (sym of_b.to ∙ of_c.to) (sym of_b.from ∙ of_c.from)
              | inr corners_c ↦ absurd (none_back a b (Region c.region) has has_b (share_corners-is a c corners_c).code of_b)
            ]
        | inr corners_b ↦
            let of_b = share_corners-is a b corners_b in
            elim (or_cases (share_places a c) (share_corners a c) faces_c) [
              | inl places_c ↦ absurd (none_back a c (Region b.region) has has_c of_b.code (share_places-is a c places_c))
              | inr corners_c ↦
                  let of_c = share_corners-is a c corners_c in
                  between_points b c has_b has_c (named_once a.code b.region c.region of_b.code of_c.code) (sym of_b.end ∙ of_c.end) (sym of_b.begin ∙ of_c.begin)
            ]
      ]

  -- ---- links

  -- the door that a door faces is found
  found_one : (a b : PortalEdge) → Contains doors a → Contains doors b → are_facing a b ≡ true → find (are_facing a) doors ≡ Some b
  found_one a b has has_b facing =
      let first = first_found (are_facing a) doors has_b.0 b has_b.1 (ap (are_facing a) has_b.2 ∙ facing) in
      let there : first.place < length doors = omega (arith, first.most, has_b.1) in
      first.is ∙ ap (λ (door : PortalEdge). Some door) (faces_one a (get_or doors first.place b) b has (Contains-get_or doors first.place b there) has_b first.passes facing)

  pub facing_linked : (tile : ℕ) (a b : PortalEdge) → Contains doors a → Contains doors b → are_facing a b ≡ true → Contains (door_links tile doors) (door_link tile a b)
  facing_linked tile a b has has_b facing =
      Contains-ordered_links (door_link tile a b) (filter_map (link_through tile doors) doors)
      (contains_found (link_through tile doors) doors a (door_link tile a b) has (ap (option_map (door_link tile a)) (found_one a b has has_b facing)))

  pub links_two_way : (tile : ℕ) → AreTwoWay (door_links tile doors)
  links_two_way tile =
      All-ordered_links (HasReverse (door_links tile doors)) (filter_map (link_through tile doors) doors)
      (All-found (link_through tile doors) (HasReverse (door_links tile doors)) doors
      (λ k d there link is. through (get_or doors k d) (Contains-get_or doors k d there) (find (are_facing (get_or doors k d)) doors) refl link is))
    where
      turned : (a b : PortalEdge) → Contains doors a → Contains doors b → are_facing a b ≡ true → door_link tile b a ≡ reverse_of b.edge (door_link tile a b)
      turned a b has has_b facing =
          let points = facing_points parts (facets_of parts) a b (is_of a has) (is_of b has_b) facing in
          (λ k. record {
            from = record { tile = tile; index = b.polygon };
            edge = b.edge;
            to = record { tile = tile; index = a.polygon };
            portal = record { left = scaled (sym points.0 k).x (sym points.0 k).z; right = scaled (sym points.1 k).x (sym points.1 k).z };
          })

      through : (a : PortalEdge) → Contains doors a → (o : Option PortalEdge) → find (are_facing a) doors ≡ o → (link : Link) → option_map (door_link tile a) o ≡ Some link
          → HasReverse (door_links tile doors) link
      through a has None found link same = absurd cc
      through a has (Some b) found link same =
          let made : door_link tile a b ≡ link = cc in
          let at = found_in (are_facing a) doors b found in
          let has_b : Contains doors b = (at.place, at.there, at.at) in
          subst (HasReverse (door_links tile doors)) made (record {
            edge = b.edge;
            back = subst (Contains (door_links tile doors)) (turned a b has has_b at.passes) (facing_linked tile b a has_b has (facing_back a b at.passes));
          })
