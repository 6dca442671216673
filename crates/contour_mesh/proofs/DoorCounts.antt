-- How many doors of a region lead from one place of its outline to another: as many as edges of its pieces do.
use Rattle.std.proofs.Common.{◌≡◌, ℕ, ◌<◌, ◌≤◌, Bool, true, false, cond, List, [], ◌∷◌, length, get_or, refl, sym, ap, subst, ◌∙◌, arith, inl, inr}
use Rattle.std.specs.Prelude.{All, Contains, ◌==◌, ◌&&◌}
use Rattle.std.specs.List.{count_by, range_with_len, sum_by}
use Rattle.std.proofs.lemmas.Bool.{and_parts, cases_lt, eq-eqb, eqb-true}
use Rattle.std.proofs.lemmas.List.Elements.{Contains-append_right}
use Rattle.std.proofs.lemmas.List.FromFn.{get_or-range_with_len, length-range_with_len}
use Rattle.std.proofs.lemmas.List.Sums.{get_or-le-sum_by, sum_by-cons, sum_by-le-sum_by}
use Rattle.nav_base.specs.Convex.{place_after}
use Rattle.mesh_types.specs.declared.region.PortalEdge.{PortalEdge}
use Rattle.mesh_types.specs.declared.region.RegionPart.{RegionPart}
use Rattle.mesh_types.specs.declared.region.Piece.{Piece}
use Rattle.mesh_types.specs.Edges.{edges_between, edges_round, leads}
use Rattle.mesh_types.specs.Facets.{Facet, facets_in, facets_of}
use Rattle.mesh_types.specs.Doors.{door_over, doors_of, facet_doors}
use Rattle.mesh_types.proofs.Words.{no_facet}
use Rattle.mesh_types.specs.Words.{no_part}
use Rattle.mesh_types.proofs.Totals.{once_in_range, sum_by-flat_map, sum_by-map, sum_by-numbers, sum_by-same, sum_by-zero}
use Rattle.contour_mesh.proofs.SoundParts.{IsSoundPart}

-- a door of a region leads from one place of its outline to another
abbrev pub is_over : ℕ → ℕ → ℕ → PortalEdge → Bool
is_over r from to door = door.region == r && (door.from == from && door.to == to)

-- the edges of a facet, where it is of the region
abbrev edges_over : ℕ → ℕ → ℕ → Facet → ℕ
edges_over r from to facet = cond (facet.region == r) (edges_round from to facet.places) 0

in_facet : (r from to polygon : ℕ) (facet : Facet) → count_by (is_over r from to) (facet_doors polygon facet) ≡ edges_over r from to facet
in_facet r from to polygon facet =
    sum_by-map (λ (door : PortalEdge). cond (is_over r from to door) 1 0) (door_over polygon facet) (range_with_len 0 (length facet.places)) ∙ by_test (facet.region == r)
  where
    by_test : (b : Bool) → sum_by (λ edge. cond (b && leads facet.places from to edge) 1 0) (range_with_len 0 (length facet.places)) ≡ cond b (edges_round from to facet.places) 0
    by_test true = refl
    by_test false = sum_by-zero (range_with_len 0 (length facet.places))

in_part : (r from to region : ℕ) (part : RegionPart) → sum_by (edges_over r from to) (facets_in part region) ≡ cond (region == r) (edges_between from to part.pieces) 0
in_part r from to region part =
    sum_by-map (edges_over r from to) (λ (piece : Piece). record { region = region; outline = part.outline; places = piece.corners }) part.pieces ∙ by_test (region == r)
  where
    by_test : (b : Bool) → sum_by (λ (piece : Piece). cond b (edges_round from to piece.corners) 0) part.pieces ≡ cond b (edges_between from to part.pieces) 0
    by_test true = refl
    by_test false = sum_by-zero part.pieces

-- the doors of a region from one place to another are the edges of its pieces that lead from the one to the other
doors_are_edges : (parts : List RegionPart) (r from to : ℕ)
    → count_by (is_over r from to) (doors_of (facets_of parts))
    ≡ sum_by (λ region. cond (region == r) (edges_between from to (get_or parts region no_part).pieces) 0) (range_with_len 0 (length parts))
unfolding doors_of facets_of
doors_are_edges parts r from to =
    let facets : List Facet = facets_of parts in
    let part : ℕ → RegionPart = λ region. get_or parts region no_part in
    let one : PortalEdge → ℕ = λ (door : PortalEdge). cond (is_over r from to door) 1 0 in
    omega (
      arith,
      sum_by-flat_map one (λ polygon. facet_doors polygon (get_or facets polygon no_facet)) (range_with_len 0 (length facets)),
      sum_by-same (λ polygon. sum_by one (facet_doors polygon (get_or facets polygon no_facet))) (λ polygon. edges_over r from to (get_or facets polygon no_facet))
          (range_with_len 0 (length facets)) (λ polygon. in_facet r from to polygon (get_or facets polygon no_facet)),
      sum_by-numbers (edges_over r from to) facets no_facet,
      sum_by-flat_map (edges_over r from to) (λ region. facets_in (part region) region) (range_with_len 0 (length parts)),
      sum_by-same (λ region. sum_by (edges_over r from to) (facets_in (part region) region)) (λ region. cond (region == r) (edges_between from to (part region).pieces) 0)
          (range_with_len 0 (length parts)) (λ region. in_part r from to region (part region)),
    )

-- so there are no more of them
pub doors_over : (parts : List RegionPart) (r from to c : ℕ) → edges_between from to (get_or parts r no_part).pieces ≤ c → count_by (is_over r from to) (doors_of (facets_of parts)) ≤ c
doors_over parts r from to c few =
    let own : ℕ → ℕ = λ region. cond (region == r) (edges_between from to (get_or parts region no_part).pieces) 0 in
    omega (
      arith,
      doors_are_edges parts r from to,
      sum_by-le-sum_by own (λ region. cond (region == r) c 0) (range_with_len 0 (length parts)) (λ region. by_test region (region == r) refl),
      once_in_range (λ region. region == r) c 0 (length parts) (λ i j less below is_i is_j. omega (arith, less, eqb-true i r is_i, eqb-true j r is_j)),
    )
  where
    by_test : (region : ℕ) (b : Bool) → (region == r) ≡ b → cond b (edges_between from to (get_or parts region no_part).pieces) 0 ≤ cond b c 0
    by_test region true is = subst (λ k. edges_between from to (get_or parts k no_part).pieces ≤ c) (sym (eqb-true region r is)) few
    by_test region false is = omega arith

-- and no fewer: where an edge of a region's pieces leads from one place to another, so does a door
pub record HasDoor (doors : List PortalEdge) (r from to : ℕ) : Type 0 where
  pub door : PortalEdge
  pub has : Contains doors door
  pub region : door.region ≡ r
  pub begins : door.from ≡ from
  pub ends : door.to ≡ to

pub some_term : {X : Type 0} (f : X → ℕ) (xs : List X) → 1 ≤ sum_by f xs → (x : X) × Contains xs x × (1 ≤ f x)
some_term f [] some = absurd (omega (arith, some))
some_term f (x ∷ xs) some = elim (cases_lt 0 (f x)) [
  | inl here ↦ (x, (0, omega arith, refl), omega (arith, here))
  | inr none ↦
      let found = some_term f xs (omega (arith, some, none, sum_by-cons f x xs)) in
      (found.0, Contains-append_right (x ∷ []) xs found.0 found.1, found.2)
]

pub some_passes : {X : Type 0} (p : X → Bool) (xs : List X) → 1 ≤ count_by p xs → (x : X) × Contains xs x × (p x ≡ true)
some_passes p xs some =
    let found = some_term (λ x. cond (p x) 1 0) xs some in
    (found.0, found.1, by_test (p found.0) found.2)
  where
    by_test : (b : Bool) → 1 ≤ cond b 1 0 → b ≡ true
    by_test true more = refl
    by_test false more = absurd (omega (arith, more))

pub door_there : (parts : List RegionPart) (r from to : ℕ) → r < length parts → 1 ≤ edges_between from to (get_or parts r no_part).pieces
    → HasDoor (doors_of (facets_of parts)) r from to
door_there parts r from to there some =
    let own : ℕ → ℕ = λ region. cond (region == r) (edges_between from to (get_or parts region no_part).pieces) 0 in
    let range : List ℕ = range_with_len 0 (length parts) in
    let at : get_or range r 0 ≡ r = get_or-range_with_len 0 (length parts) r 0 there ∙ omega arith in
    let term : own (get_or range r 0) ≡ edges_between from to (get_or parts r no_part).pieces =
    ap own at ∙ ap (λ b. cond b (edges_between from to (get_or parts r no_part).pieces) 0) (eq-eqb r r refl) in
    let found = some_passes (is_over r from to) (doors_of (facets_of parts))
    (omega (arith, some, term, doors_are_edges parts r from to, get_or-le-sum_by own range r 0 (omega (arith, there, length-range_with_len 0 (length parts))))) in
    let door : PortalEdge = found.0 in
    let outer = and_parts (door.region == r) (door.from == from && door.to == to) found.2 in
    let inner = and_parts (door.from == from) (door.to == to) outer.1 in
    record {
      door = door;
      has = found.1;
      region = eqb-true door.region r outer.0;
      begins = eqb-true door.from from inner.0;
      ends = eqb-true door.to to inner.1;
    }

-- over each edge of an outline there is a door
pub outline_door : (parts : List RegionPart) (r place : ℕ) → All IsSoundPart parts → r < length parts → place < length (get_or parts r no_part).outline.corners
    → HasDoor (doors_of (facets_of parts)) r place (place_after (length (get_or parts r no_part).outline.corners) place)
outline_door parts r place sound there inside =
    door_there parts r place (place_after (length (get_or parts r no_part).outline.corners) place) there
    (omega (arith, (sound r no_part there).outline.along place inside))
